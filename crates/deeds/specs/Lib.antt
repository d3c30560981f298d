pub mod Departure
pub mod Ping
pub mod Rows
pub mod Deeds
