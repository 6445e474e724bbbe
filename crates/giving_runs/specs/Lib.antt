-- What the gives of whole runs look for, answer and carry.
pub mod Runs
