pub mod Order
pub mod Reaching
pub mod Steps
pub mod Rounds
pub mod Fates
pub mod Ends
pub mod Sides
pub mod Places
