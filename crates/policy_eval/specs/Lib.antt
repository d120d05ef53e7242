pub mod Header
pub mod Attributes
pub mod Routes
