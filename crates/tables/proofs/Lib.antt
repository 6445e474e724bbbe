-- Laws of the numbers that a table holds.
pub mod Laws
