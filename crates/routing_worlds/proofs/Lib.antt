pub mod OpensRead
pub mod RoutingSound
pub mod MadeAgain
pub mod EnvironmentRead
pub mod RoutingComplete
mod WordSteps
