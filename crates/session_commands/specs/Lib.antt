pub mod Welcome
pub mod Registration
pub mod Negotiation
pub mod Session
