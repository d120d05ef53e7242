pub mod NodeSet
pub mod Growth
pub mod Values
pub mod EqualNodes
