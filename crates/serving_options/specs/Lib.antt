pub mod Accounts
pub mod Asked
pub mod Faults
pub mod Files
