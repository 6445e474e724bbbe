-- What the end of a safe change asks and leaves.
pub mod Committed
