pub mod Caps
pub mod Parts
pub mod Plain
pub mod Accounts
pub mod Settings
pub mod Enrol
