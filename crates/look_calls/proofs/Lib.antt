-- The outcome of find and label, from the check's.
pub mod Laws
