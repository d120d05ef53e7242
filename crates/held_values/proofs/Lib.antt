pub mod EndsMeet
pub mod Lines
pub mod Routes
pub mod Metrics
pub mod Held
pub mod Fields
