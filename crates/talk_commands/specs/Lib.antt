pub mod Lines
pub mod Talking
pub mod Away
pub mod Talk
