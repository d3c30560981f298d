pub mod OneName
pub mod Quiet
pub mod Reached
pub mod Relayed
mod Examples
