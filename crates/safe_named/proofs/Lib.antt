-- What the safe changes by name leave.
pub mod Laws
