pub mod Reading
pub mod FailureParts
pub mod Steps
pub mod ValueSteps
