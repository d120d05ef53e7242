pub mod Steps
pub mod Levels
pub mod Lessons
