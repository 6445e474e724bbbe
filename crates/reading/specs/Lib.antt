-- Where a part of lent bytes starts, and when an entry's name stands whole.
pub mod Parts
