-- Laws of two entries of one path.
pub mod Laws
pub mod ReadableIn
