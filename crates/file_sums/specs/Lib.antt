-- What the files of an accepted image add up to.
pub mod Sums
