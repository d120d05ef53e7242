pub mod Lines
pub mod Opening
pub mod Turns
pub mod Simulating
