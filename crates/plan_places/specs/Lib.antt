pub mod Plans
pub mod Places
pub mod Tables
