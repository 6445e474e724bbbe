-- A comparison whose first image is accepted.
pub mod Second
