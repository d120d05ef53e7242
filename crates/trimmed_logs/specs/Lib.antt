pub mod Trimmed
pub mod Kept
pub mod Logs
pub mod Texts
pub mod Held
pub mod Steps
pub mod Answers
