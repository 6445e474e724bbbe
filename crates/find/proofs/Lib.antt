-- Laws of an open image and of a search in it, and of the first entry along a chain.
pub mod Laws
pub mod FirstEntry
