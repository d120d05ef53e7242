pub mod Hops
pub mod Readings
pub mod OneSide
