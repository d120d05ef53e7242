pub mod Interfaces
pub mod Connected
pub mod Limits
pub mod Values
