-- Theorems about the conversions of settings files.
pub mod Records
pub mod Converted
pub mod Theorems
