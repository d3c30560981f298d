pub mod Once
pub mod Fits
pub mod Channels
pub mod Talks
pub mod Sessions
pub mod Rows
