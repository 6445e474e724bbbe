-- What find and label answer, leave and hand out.
pub mod Calls
pub mod Laws
