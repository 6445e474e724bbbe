-- The laws that a comparison is proved with.
pub mod Laws
pub mod WalkedTo
pub mod Whole
