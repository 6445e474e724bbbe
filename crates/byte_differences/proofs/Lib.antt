-- Laws of the comparison, and of places in a chain.
pub mod Comparing
pub mod Places
