pub mod Texts
pub mod Due
pub mod Order
pub mod Loading
