pub mod Carets
pub mod KeptLimits
pub mod LineByLine
pub mod SaidCosts
