-- Laws of the changes by name.
pub mod Laws
