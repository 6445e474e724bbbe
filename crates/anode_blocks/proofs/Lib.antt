-- Laws of a slot that is stored, of the slots stored one after the other, and of the block table that shows them.
pub mod Laws
