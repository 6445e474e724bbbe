-- What the contracts of the writers cite.
pub mod Entries
