-- The tree of an image as a value: what each path names, with its facts.
pub mod Paths
pub mod Facts
pub mod FoundNames
pub mod Reached
