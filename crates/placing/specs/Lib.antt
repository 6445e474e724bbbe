-- What the steps answer, in the terms of the rules, and the state that they start from.
pub mod Steps
pub mod States
