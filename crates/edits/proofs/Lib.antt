-- Laws of blocks that are stored, of the walks along a chain and of a gap that is closed.
pub mod Blocks
pub mod Along
pub mod Gap
