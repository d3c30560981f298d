pub mod Outgoing
pub mod Numerics
pub mod Support
pub mod Cut
pub mod CivilTime
pub mod Borrowed
