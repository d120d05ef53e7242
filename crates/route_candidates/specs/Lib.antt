pub mod Underlays
pub mod Origins
pub mod Heard
