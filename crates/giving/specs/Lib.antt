-- What is asked where a chain is zeroed.
pub mod Steps
