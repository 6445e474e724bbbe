-- What is handed out along entries, one after the other.
pub mod Along
