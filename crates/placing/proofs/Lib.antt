-- Laws of the anodes in three tables, and of a block put into an anode.
pub mod Tables
pub mod Cases
pub mod Found
