pub mod Doing
pub mod Taking
pub mod Writing
