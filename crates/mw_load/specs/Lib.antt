pub mod Ended
pub mod Causes
pub mod Refused
pub mod Loading
