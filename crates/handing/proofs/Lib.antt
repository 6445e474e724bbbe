-- Laws of a buffer's room and of six numbers stored in it.
pub mod Laws
