-- The laws of an entry that was met, or was not.
pub mod Laws
