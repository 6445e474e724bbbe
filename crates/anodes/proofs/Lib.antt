-- Laws of the tables that are loaded.
pub mod Laws
