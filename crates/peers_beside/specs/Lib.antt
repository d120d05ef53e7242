pub mod Shared
pub mod Same
