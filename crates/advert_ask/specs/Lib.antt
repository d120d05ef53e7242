pub mod Words
pub mod Due
pub mod Loading
pub mod Answering
pub mod Running
