-- Laws of the marks.
pub mod Laws
pub mod Owners
pub mod Shown
