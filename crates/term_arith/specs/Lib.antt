pub mod Bits
pub mod Gates
