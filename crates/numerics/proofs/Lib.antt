pub mod Built
pub mod Cuts
pub mod Dates
pub mod Rooms
mod Examples
