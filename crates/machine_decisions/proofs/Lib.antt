pub mod Received
pub mod Places
pub mod Left
pub mod Untouched
pub mod KnownLaws
