pub mod Answering
pub mod Completeness
pub mod Ending
pub mod Runs
