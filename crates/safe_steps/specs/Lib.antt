-- What the last steps of a safe change ask.
pub mod Ready
