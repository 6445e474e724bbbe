-- Laws of growth on tables, of the state that it leaves, and of the anode that can be had.
pub mod Growing
pub mod States
pub mod Spares
