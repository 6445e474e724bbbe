-- Laws of a removal.
pub mod Laws
