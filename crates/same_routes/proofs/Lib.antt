pub mod SameRoutes
pub mod SameSlots
