-- Laws of a give and of many, of runs that go back, and of a chain zeroed.
pub mod Dropping
pub mod Runs
