pub mod Cnf
pub mod Laws
pub mod Meaning
pub mod Proper
