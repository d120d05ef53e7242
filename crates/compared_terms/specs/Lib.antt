pub mod Compared
pub mod Ties
