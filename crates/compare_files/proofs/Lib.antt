pub mod Stopping
pub mod Reading
pub mod Tracking
