pub mod NextHops
pub mod Leading
pub mod Held
