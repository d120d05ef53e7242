pub mod Found
pub mod SameClasses
pub mod Walks
pub mod Ranks
pub mod Classes
pub mod Fitting
pub mod Sliced
pub mod Bare
