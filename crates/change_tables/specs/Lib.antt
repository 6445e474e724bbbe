-- What a change leaves of an image and of its two tables.
pub mod Leaves
pub mod Laws
pub mod Chains
