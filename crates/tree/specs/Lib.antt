-- What the walk over the directories answers, and how far it is on the way.
pub mod Tree
pub mod Steps
