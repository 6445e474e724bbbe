-- Laws of the walk's answer.
pub mod Rules
