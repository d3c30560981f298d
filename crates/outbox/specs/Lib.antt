pub mod Ring
pub mod Rule
pub mod Ends
