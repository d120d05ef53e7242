pub mod EntryBit
pub mod Placed
pub mod OffSlices
pub mod BgpSound
pub mod OpenSound
pub mod SameShapes
pub mod OpenComplete
pub mod OpensFit
