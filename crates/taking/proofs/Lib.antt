-- Laws of a take and of many.
pub mod OneTake
pub mod ManyTakes
