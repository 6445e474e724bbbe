-- What the check answers.
pub mod Answers
