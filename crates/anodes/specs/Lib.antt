-- The anodes of an image in three lists.
pub mod Loaded
