-- How slots grow on tables.
pub mod Grown
