-- What moved anode blocks ask.
pub mod Moved
