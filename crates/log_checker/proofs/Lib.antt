pub mod Cutting
pub mod Fronts
pub mod Refuting
pub mod Exact
