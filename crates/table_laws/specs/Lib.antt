-- What the block table of an accepted image shows of its chains.
pub mod ShownOwners
