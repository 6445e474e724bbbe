-- The plan of a safe removal, and the image and the list that it leaves.
pub mod Plans
pub mod Images
