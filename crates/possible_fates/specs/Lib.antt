pub mod Possible
pub mod Putting
