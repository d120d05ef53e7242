pub mod Marks
pub mod OriginCodes
pub mod Saturated
