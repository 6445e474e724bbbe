-- Laws of the definitions of `specs/`, and what the walk comes to by the rules.
pub mod Laws
pub mod Tallies
pub mod Matching
pub mod Rules
