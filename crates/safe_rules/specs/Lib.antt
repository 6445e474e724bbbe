-- Safe updates: their plans, their lists of block writes, and what the four safe calls answer.
pub mod SafePlans
pub mod SafeWrites
pub mod SafeCalls
pub mod Worked
