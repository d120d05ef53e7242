pub mod Fits
pub mod Origins
pub mod Places
pub mod Shape
pub mod Sides
