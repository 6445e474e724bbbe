-- The name that the exported list gives by offset and length.
pub mod Names
