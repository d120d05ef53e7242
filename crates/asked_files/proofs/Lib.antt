pub mod Answering
pub mod Copies
pub mod Endings
pub mod Networks
pub mod Running
