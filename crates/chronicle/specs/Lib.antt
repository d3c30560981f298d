pub mod Reasons
pub mod History
pub mod Idle
pub mod Kept
pub mod Journal
