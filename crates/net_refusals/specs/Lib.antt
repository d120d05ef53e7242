pub mod Refusals
pub mod Network
pub mod Apart
