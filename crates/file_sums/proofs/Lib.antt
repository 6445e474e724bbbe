-- The laws that the sums over entries are proved with.
pub mod Laws
