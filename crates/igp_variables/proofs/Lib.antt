pub mod Steps
pub mod Small
pub mod Reading
pub mod Placed
pub mod Ends
