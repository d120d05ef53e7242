pub mod Adjacent
pub mod Equations
pub mod Least
pub mod Levels
pub mod Reached
