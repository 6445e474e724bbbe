-- Bytes staged at the front of a buffer, a planned write as it is stored, and what a write leaves.
pub mod Staging
pub mod Planned
pub mod Plans
