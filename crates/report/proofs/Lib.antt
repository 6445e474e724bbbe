-- The laws that the code of the report is proved with.
pub mod Passes
pub mod Totals
