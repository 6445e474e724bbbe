-- Old blocks in the block table, and one block after the other given back.
pub mod OldTable
pub mod Giving
pub mod OldShown
