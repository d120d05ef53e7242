pub mod Unsent
pub mod Heard
