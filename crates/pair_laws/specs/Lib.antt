-- The differences worked out directory by directory are those of the paths.
pub mod Followed
pub mod ChildPaths
pub mod Partners
pub mod Marks
pub mod ByPairs
