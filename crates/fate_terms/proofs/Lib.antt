pub mod EndingKinds
pub mod Naming
pub mod Reached
pub mod Spreading
pub mod Walks
