pub mod Shapes
pub mod Sources
pub mod Environments
pub mod Tables
pub mod Follows
