-- What the block table holds while owners are marked in it, and after.
pub mod Marks
