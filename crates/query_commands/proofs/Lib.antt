pub mod Told
pub mod Lists
pub mod Listed
pub mod Examples
pub mod Members
pub mod NameLines
