-- Laws of the index of names.
pub mod Laws
