pub mod Chains
pub mod Layers
pub mod Sent
pub mod ShapeLaw
pub mod Anys
pub mod Read
