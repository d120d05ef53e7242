pub mod Lines
pub mod Encoding
pub mod Held
