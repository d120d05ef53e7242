pub mod Verdicts
pub mod Decoded
pub mod Formulas
pub mod Searches
