pub mod Turned
pub mod Opened
pub mod Ends
