-- Block writes at a place of a buffer.
pub mod Puts
