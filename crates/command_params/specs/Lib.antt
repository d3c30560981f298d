pub mod Lists
pub mod ListSteps
pub mod Names
pub mod Params
