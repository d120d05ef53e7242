pub mod Pieces
pub mod Due
pub mod Said
pub mod Runs
