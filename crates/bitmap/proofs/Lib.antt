-- The laws that the code of the bitmap is proved with.
pub mod Laws
