pub mod Pairing
pub mod EndPairs
