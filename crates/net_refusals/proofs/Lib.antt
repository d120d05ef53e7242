pub mod Few
pub mod TrackedFew
pub mod InOrder
