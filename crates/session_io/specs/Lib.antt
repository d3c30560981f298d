pub mod Beating
pub mod Doing
pub mod Filling
pub mod Writing
pub use Rattle.session_ends.specs.Timing
pub use Rattle.receive_buffer.specs.Taking
pub use Rattle.wire.specs.Wired
