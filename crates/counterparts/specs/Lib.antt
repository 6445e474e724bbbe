-- The entries of a directory in the index.
pub mod Spans
