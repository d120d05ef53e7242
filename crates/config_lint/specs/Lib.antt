pub mod Asides
pub mod Listed
pub mod Labels
pub mod Linted
pub mod Runs
