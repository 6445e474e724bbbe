-- Laws of the entries of a directory in the index.
pub mod Laws
pub mod Fits
pub mod Found
