-- Laws of the steps of a make, and of what it leaves.
pub mod Steps
pub mod Done
