-- What a lookup answers, and where a head stands in the queue.
pub mod Answers
pub mod Queued
