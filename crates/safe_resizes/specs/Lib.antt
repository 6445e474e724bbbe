-- The plan of a safe resize.
pub mod Resized
