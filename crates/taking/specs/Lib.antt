-- What the takes carry from one to the next.
pub mod Extents
pub mod Turns
