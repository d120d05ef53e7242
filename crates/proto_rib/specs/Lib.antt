pub mod Unfailed
pub mod Taken
