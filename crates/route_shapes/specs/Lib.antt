pub mod Shapes
pub mod Bgp
