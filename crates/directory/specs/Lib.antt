-- The layout of 01 for directory blocks and entries.
pub mod Entries
