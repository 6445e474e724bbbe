-- What a store changes and what it leaves.
pub mod Kept
pub mod StoredBlocks
pub mod StoredAnodes
pub mod DisjointBlocks
pub mod StoredBytes
pub mod StoredSlots
