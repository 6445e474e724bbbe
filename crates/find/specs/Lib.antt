-- An accepted image with what the check loaded of it, and the answer of a search in it.
pub mod Open
pub mod Found
