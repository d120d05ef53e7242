pub mod Endings
pub mod Named
pub mod Reaching
