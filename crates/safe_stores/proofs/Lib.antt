-- The image with a moved anode table, a file's bytes stored whole, what is staged, stored and listed, and what a safe change leaves.
pub mod Stores
pub mod Staged
pub mod Leaves
pub mod Placed
