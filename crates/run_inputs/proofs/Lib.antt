pub mod Loading
pub mod Commands
pub mod Admitting
pub mod Simulating
