pub mod BgpParts
pub mod FewEnds
pub mod OspfParts
pub mod Placed
