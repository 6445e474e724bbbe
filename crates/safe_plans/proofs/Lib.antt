-- How many blocks a plan needs and has, one part of it after the other, the anode with a block, and that the parts are a plan of the rules.
pub mod Counts
pub mod Parts
pub mod Ends
