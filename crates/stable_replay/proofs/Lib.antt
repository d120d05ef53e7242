pub mod AllPlaces
pub mod LeftOver
pub mod OspfParts
