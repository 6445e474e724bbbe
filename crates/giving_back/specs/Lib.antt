-- Which blocks are old ones, and what giving them back one by one answers.
pub mod OldTable
pub mod Backs
