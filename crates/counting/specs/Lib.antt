-- Laws of the rules' sums and searches.
pub mod Laws
