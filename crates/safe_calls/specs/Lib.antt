-- What the safe calls settle.
pub mod Outcomes
