pub mod Sending
pub mod Marks
pub mod Going
pub mod Arriving
