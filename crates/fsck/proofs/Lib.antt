-- Laws of the check's answer, of what it leaves in the tables, and of the tests of anodes and blocks.
pub mod Laws
pub mod Space
