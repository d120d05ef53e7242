pub mod Records
pub mod Routes
pub mod Order
pub mod MapRecs
pub mod SameNodes
pub mod Held
pub mod Packets
pub mod Seen
