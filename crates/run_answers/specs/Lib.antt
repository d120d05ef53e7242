pub mod Lines
pub mod Numbers
pub mod Verdicts
pub mod Replays
pub mod Checks
pub mod Simulations
pub mod Running
pub mod Answering
