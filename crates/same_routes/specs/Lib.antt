pub mod Same
pub mod Slots
