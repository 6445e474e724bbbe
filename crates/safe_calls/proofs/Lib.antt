-- The outcome of a safe call.
pub mod Outcomes
