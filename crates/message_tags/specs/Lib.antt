pub mod ClientOnly
pub mod Tags
pub mod Value
