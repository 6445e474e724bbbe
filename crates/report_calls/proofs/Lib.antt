-- The laws that the report is proved with.
pub mod Counted
pub mod Outcomes
