pub mod Labels
pub mod Answers
pub mod Rendered
pub mod Spellings
pub mod Whole
pub mod Headed
