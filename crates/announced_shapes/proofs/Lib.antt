pub mod PlainShape
pub mod PathLaw
pub mod Announced
pub mod Announcing
pub mod AnnouncementLaw
pub mod TakenSteps
pub mod EnvironmentLaw
