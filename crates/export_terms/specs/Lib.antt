pub mod Shapes
pub mod Routes
