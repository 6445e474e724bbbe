-- What a block in a new place asks of the free list.
pub mod Places
