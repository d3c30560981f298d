mod Examples
pub mod Alike
pub mod Once
pub mod AnswerTexts
pub mod Untagged
