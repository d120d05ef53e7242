pub mod Peers
pub mod Refusals
pub mod Common
pub mod Links
pub mod Ends
