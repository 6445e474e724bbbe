-- What the stores of a safe change ask, and what it leaves.
pub mod Stored
pub mod Leaves
