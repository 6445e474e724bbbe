-- What a reader of a directory block reads.
pub mod Reads
