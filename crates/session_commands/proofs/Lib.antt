pub mod UserNames
pub mod Support
