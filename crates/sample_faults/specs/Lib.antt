-- Refusals of the check that the checker computes.
pub mod Faults
