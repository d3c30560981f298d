pub mod Parted
pub mod Rows
pub mod Lists
pub mod Examples
