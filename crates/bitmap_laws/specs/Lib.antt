-- The bitmap of an accepted image: what the block table shows of it, and the theorems.
pub mod Shown
pub mod Outcomes
pub mod Read
pub mod Words
pub mod Theorems
