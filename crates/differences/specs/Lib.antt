-- The differences of two disks, and what the two calls answer that compare them.
pub mod Listed
pub mod Fields
pub mod Differences
pub mod Calls
pub mod Handing
pub mod Pairs
