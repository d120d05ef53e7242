pub mod ReplayAnswers
pub mod SimulationAnswers
