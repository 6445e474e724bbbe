-- Laws of a run that is given, and of what is carried to the next.
pub mod Picking
pub mod Afresh
pub mod Turning
