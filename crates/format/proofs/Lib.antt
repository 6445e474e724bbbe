-- Laws of the parts that format stores, and of a formatted image.
pub mod Parts
pub mod Laws
