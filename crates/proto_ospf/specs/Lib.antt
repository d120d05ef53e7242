pub mod Rounds
pub mod Reached
pub mod Origins
pub mod Steps
