-- What the list of differences says of two trees.
pub mod SameTree
pub mod NoDifference
pub mod Complete
pub mod OwnPaths
pub mod Places
pub mod Claims
pub mod EachReported
pub mod Theorem
pub mod Few
