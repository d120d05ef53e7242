pub mod Alike
pub mod Counting
pub mod Failing
pub mod Placing
