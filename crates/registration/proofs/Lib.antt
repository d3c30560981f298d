pub mod Fourth
pub mod Same
mod Examples
pub mod Spelled
pub mod AccountLines
mod Known
pub mod Named
