-- The index of names that the walk keeps.
pub mod Index
