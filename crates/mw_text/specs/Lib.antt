pub mod Address
pub mod Members
pub mod Digits
pub mod Words
pub mod Text
pub mod Reading
