pub mod Leasts
pub mod MaskLengths
pub mod Openings
pub mod Numbers
pub mod SaidLengths
pub mod KeptPolicies
pub mod KeptEntries
pub mod KeptLengths
