pub mod Apart
pub mod Comparing
