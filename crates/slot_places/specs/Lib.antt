pub mod Supported
pub mod Origins
pub mod Values
pub mod Rooms
