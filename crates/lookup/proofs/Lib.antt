-- Laws of the lookups and of the queue.
pub mod Laws
pub mod Queue
