pub mod Restored
pub mod Taken
pub mod Ascending
pub mod Posted
pub mod FewAdjacencies
