pub mod Look
pub mod Most
