pub mod Told
pub mod Recorded
pub mod Ordered
