pub mod Kinds
pub mod Places
pub mod Prepared
pub mod Runs
pub mod Laws
