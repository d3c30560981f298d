pub mod Telling
pub mod Visible
pub mod Names
pub mod Listing
pub mod Who
pub mod Whois
pub mod Motd
pub mod Query
