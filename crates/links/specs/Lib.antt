-- What is left of a chain.
pub mod Links
