-- The plan of a safe resize, the bytes that are staged for it, and the image and the list that it leaves.
pub mod Plans
pub mod Staging
pub mod Images
