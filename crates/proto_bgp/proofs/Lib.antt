pub mod StepLaws
pub mod Mapped
pub mod Sent
