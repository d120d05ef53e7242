pub mod Channels
pub mod Sending
pub mod Announcing
pub mod Deciding
pub mod Events
pub mod Quiet
pub mod Sound
