pub mod Ascending
pub mod Unions
