pub mod Found
pub mod Each
pub mod Lines
pub mod Joining
pub mod Leaving
pub mod Inviting
pub mod Topics
pub mod Channel
