pub mod Distinct
pub mod Copies
pub mod Named
