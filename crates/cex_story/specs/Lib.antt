pub mod Pages
pub mod Stories
