pub mod Heard
pub mod Touched
