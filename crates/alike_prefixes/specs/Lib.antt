pub mod Alike
pub mod Moving
