pub mod Putting
pub mod Spreading
pub mod Rounding
pub mod Ending
pub mod Walking
pub mod Firsts
