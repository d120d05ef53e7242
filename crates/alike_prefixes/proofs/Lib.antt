pub mod Alike
pub mod Emptied
pub mod Announced
pub mod Moved
