-- Laws of the copy and of the write.
pub mod Copying
pub mod Writing
