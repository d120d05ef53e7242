pub mod Exporting
pub mod Verdicts
pub mod Encoded
pub mod Formulas
pub mod Searches
