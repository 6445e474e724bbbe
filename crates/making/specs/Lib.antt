-- What the contracts of a make's steps cite.
pub mod Steps
