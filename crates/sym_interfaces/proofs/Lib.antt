pub mod FailedLinks
pub mod Networks
