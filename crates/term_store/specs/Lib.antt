pub mod Terms
pub mod Reading
