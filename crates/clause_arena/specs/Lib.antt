pub mod Links
pub mod Store
pub mod Held
pub mod Watched
pub mod Changes
pub mod Moved
pub mod Deleted
pub mod Compacted
