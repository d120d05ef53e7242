pub mod Cuts
pub mod Marks
pub mod Refusals
pub mod Steps
pub mod Places
