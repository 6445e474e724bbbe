-- Laws of a resize.
pub mod Laws
