-- The plan of a safe make, what it stores, and its list.
pub mod Steps
pub mod Made
