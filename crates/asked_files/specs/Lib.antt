pub mod Words
pub mod Network
pub mod Ending
pub mod Answering
pub mod Running
