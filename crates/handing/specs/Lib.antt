-- Differences as they are handed out into a lent buffer.
pub mod Differs
pub mod HandLaws
