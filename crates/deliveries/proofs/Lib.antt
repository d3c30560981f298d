pub mod Growing
pub mod Newest
pub mod Written
pub mod GoesOn
