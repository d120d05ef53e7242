pub mod Words
pub mod Texts
pub mod Due
pub mod Running
pub mod Bytes
pub mod Printing
