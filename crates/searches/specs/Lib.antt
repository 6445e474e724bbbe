-- What the searches answer.
pub mod Found
