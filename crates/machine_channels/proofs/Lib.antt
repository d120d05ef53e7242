pub mod Changing
pub mod Planned
pub mod Made
