pub mod Environments
pub mod Equations
pub mod Beside
