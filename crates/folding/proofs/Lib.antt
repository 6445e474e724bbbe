-- Laws of folded names.
pub mod Laws
