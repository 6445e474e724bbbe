-- What the exported list hands out.
pub mod Listed
