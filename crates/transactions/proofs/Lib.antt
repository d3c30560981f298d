pub mod Replay
pub mod Named
pub mod Turns
pub mod Quiet
pub mod Sorted
