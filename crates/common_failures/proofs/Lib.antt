pub mod Items
pub mod Prefixes
pub mod Own
pub mod Joint
pub mod Counted
