-- What a safe call asks for, and what it leaves of an accepted image.
pub mod After
pub mod Asked
