pub mod Paths
pub mod Announcements
pub mod Sets
pub mod Environments
