pub mod Placed
pub mod Slots
pub mod Decoded
