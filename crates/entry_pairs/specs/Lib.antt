-- Entries that can be compared, and the bytes in which two differ.
pub mod Readable
pub mod Bytes
