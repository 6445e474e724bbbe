-- The bytes in which two files differ.
pub mod Differing
pub mod BytesCompared
