-- Laws of the outcomes of the two calls that compare.
pub mod Outcomes
