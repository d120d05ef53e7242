pub mod Clauses
pub mod Entries
pub mod Known
pub mod Marked
pub mod Trails
pub mod Text
pub mod Words
pub mod Earned
