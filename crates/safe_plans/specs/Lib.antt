-- What the plans of safe changes ask and answer on tables.
pub mod Planned
