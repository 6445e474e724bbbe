-- Laws of block writes that stand in a buffer one behind the other.
pub mod Laws
