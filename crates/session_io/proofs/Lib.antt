pub mod LinesRead
pub mod Moments
