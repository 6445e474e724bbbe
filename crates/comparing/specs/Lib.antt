-- What a comparison goes over.
pub mod Walked
