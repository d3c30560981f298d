mod Examples
pub mod Mild
pub mod Turns
