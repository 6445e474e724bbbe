-- What a shift report counts, what its totals are and what the call settles.
pub mod Runs
pub mod Figures
pub mod Report
pub mod Shift
pub mod Room
pub mod Table
pub mod Worked
