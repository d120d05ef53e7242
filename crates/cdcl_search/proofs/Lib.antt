pub mod Bound
pub mod Bumps
pub mod Codes
pub mod Downs
pub mod Logs
pub mod Ready
pub mod Reduced
pub mod Runs
