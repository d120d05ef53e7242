pub mod Marks
pub mod Shapes
pub mod Brought
pub mod Rooms
pub mod Parts
pub mod Environments
pub mod Announced
