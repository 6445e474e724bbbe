-- A new place on the tables.
pub mod NewPlaces
