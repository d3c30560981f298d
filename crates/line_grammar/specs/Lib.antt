pub mod Grammar
pub mod Lines
pub mod Parts
pub mod Reading
pub mod Spelling
pub mod Steps
