pub mod CommonShapes
pub mod Alike
pub mod Identifiers
pub mod AlikeRows
pub mod ExternalEnds
pub mod RowsRead
pub mod WholeEnvironments
