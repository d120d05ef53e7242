pub mod ExternalCost
pub mod Environments
pub mod Arriving
pub mod LearntOver
pub mod CandidateSteps
pub mod LocalSteps
pub mod HeardOnly
