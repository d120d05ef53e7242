pub mod Answers
pub mod Sections
