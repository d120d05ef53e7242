pub mod Hops
pub mod Nearer
pub mod Walks
pub mod Plain
