-- Laws of reading and listing.
pub mod Laws
