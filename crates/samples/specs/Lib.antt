-- Facts that the checker computes.
pub mod Disks
pub mod Formatted
pub mod Search
