pub mod Outcomes
pub mod Turns
pub mod Going
pub mod Reductions
