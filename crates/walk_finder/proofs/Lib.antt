pub mod Leading
pub mod Marked
pub mod Trails
pub mod Tables
pub mod ByKind
pub mod Others
pub mod Founds
