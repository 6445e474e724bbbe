-- What the tests of chains find and the tables that they fill.
pub mod Predecessors
pub mod Storing
pub mod Endings
pub mod FreeList
pub mod Filling
