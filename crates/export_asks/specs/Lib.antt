pub mod Grammar
pub mod Asking
pub mod Exported
pub mod Steps
pub mod Worked
