pub mod PlaceSteps
pub mod Tabulated
