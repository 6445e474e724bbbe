-- Calls and changes on files that the checker computes.
pub mod Files
pub mod Full
