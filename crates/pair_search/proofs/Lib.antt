pub mod Formulas
pub mod Decodings
