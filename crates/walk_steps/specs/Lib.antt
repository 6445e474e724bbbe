-- The walk by tables, step by step.
pub mod Steps
