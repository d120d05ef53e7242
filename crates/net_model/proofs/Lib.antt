pub mod Ids
pub mod Tracking
pub mod Unbroken
pub mod Placed
pub mod OneSubnet
pub mod OnlyOne
pub mod NextHops
