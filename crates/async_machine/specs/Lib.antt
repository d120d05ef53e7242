pub mod Decisions
pub mod Taking
pub mod Runs
pub mod Machine
