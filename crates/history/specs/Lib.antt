-- Demand 3: one theorem over any list of calls.
pub mod History
pub mod Throughout
