pub mod Causes
pub mod Due
pub mod Loading
