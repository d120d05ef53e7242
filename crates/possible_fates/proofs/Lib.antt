pub mod Walks
pub mod Those
