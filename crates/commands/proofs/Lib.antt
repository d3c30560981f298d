pub mod Named
pub mod Quitting
mod Examples
