pub mod Following
pub mod Clusters
pub mod Deciding
pub mod Ranks
pub mod Words
