pub mod Packets
pub mod Unknowns
pub mod Slots
pub mod Worlds
pub mod Symbols
