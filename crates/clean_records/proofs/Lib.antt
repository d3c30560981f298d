pub mod Texts
pub mod Shapes
pub mod Lookups
pub mod Effects
pub mod Own
pub mod Lists
pub mod Asking
pub mod Sessions
pub mod Talks
pub mod Queries
pub mod Channels
pub mod Modes
pub mod Reading
pub mod Rows
pub mod Histories
pub mod Answered
mod Examples
