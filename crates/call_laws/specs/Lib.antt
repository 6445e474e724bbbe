-- Laws of the calls' outcomes.
pub mod Opened
pub mod Changed
