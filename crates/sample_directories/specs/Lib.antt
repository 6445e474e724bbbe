-- Calls on directories that the checker computes.
pub mod Directories
