pub mod Keys
pub mod Candidates
pub mod Best
pub mod Beside
pub mod Joined
pub mod Ways
