-- An accepted image with what the check filled and loaded of it for a report.
pub mod Reportable
