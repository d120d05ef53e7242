pub mod Formulas
pub mod Searches
