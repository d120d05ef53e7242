pub mod Everywhere
pub mod Bounds
pub mod Interior
pub mod Resolved
pub mod Origins
pub mod Staying
pub mod Steps
