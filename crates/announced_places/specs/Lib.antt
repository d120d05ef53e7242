pub mod Announced
pub mod Environments
