-- Theorems about a formatted image.
pub mod Anodes
pub mod Links
pub mod Owners
pub mod Passes
pub mod Blocks
pub mod Walk
pub mod Accepted
