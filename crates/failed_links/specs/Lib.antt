pub mod Rows
pub mod Failures
