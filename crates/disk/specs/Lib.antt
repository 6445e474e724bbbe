-- The layouts of 01 for blocks, the root block and anode blocks, and the numbers of the refusals.
pub mod Refusals
pub mod Blocks
pub mod Root
pub mod AnodeBlocks
