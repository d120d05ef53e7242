pub mod Cuts
pub mod Plans
pub mod Slicing
