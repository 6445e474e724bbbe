-- Laws of the tests of chains, and of the tables that they fill.
pub mod FreeList
pub mod Predecessors
pub mod Storing
pub mod Endings
pub mod Links
pub mod Filling
pub mod Laws
pub mod Runs
