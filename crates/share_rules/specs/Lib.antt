-- Shares (02, No. 9): two parties and the keeper on one disk, and what the six shared calls answer.
pub mod Shares
pub mod SharedCalls
pub mod Worked
