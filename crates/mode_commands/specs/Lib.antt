pub mod Letters
pub mod Parameters
pub mod Steps
pub mod Lines
pub mod ChannelModes
pub mod UserModes
pub mod Modes
