pub mod PlacedThings
pub mod ExternalPlaces
