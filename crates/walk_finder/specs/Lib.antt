pub mod Rows
pub mod Layers
pub mod Following
pub mod Sought
