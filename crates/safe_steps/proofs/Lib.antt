-- The slots in use, a file emptied, and plans one after the other.
pub mod Steps
