-- Laws of a block that is copied, and of the slots that take new places one after the other.
pub mod Laws
