pub mod Steps
pub mod LineTexts
pub mod EachLine
