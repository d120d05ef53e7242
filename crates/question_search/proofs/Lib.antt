pub mod Formulas
pub mod Faults
