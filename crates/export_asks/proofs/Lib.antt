pub mod Traces
pub mod Leasts
