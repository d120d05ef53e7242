pub mod Trails
pub mod Watches
pub mod Starts
pub mod Sets
pub mod Values
