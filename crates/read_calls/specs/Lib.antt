-- What a list hands back.
pub mod Handed
