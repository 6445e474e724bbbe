-- Laws of bytes compared and of the fields that differ.
pub mod Laws
