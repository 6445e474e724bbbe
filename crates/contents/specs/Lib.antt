-- How far a copy out of a chain is, and how far a write along one.
pub mod Copied
pub mod Written
