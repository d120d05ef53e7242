pub mod Encodings
pub mod Formulas
pub mod Decodings
