-- The shift report: what runs mean, the totals after a list of images, and what the call reads of an accepted image.
pub mod RunsMean
pub mod ModestFigures
pub mod ShiftTotals
pub mod Theorems
