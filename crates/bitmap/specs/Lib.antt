-- What the bitmap is, byte by byte, and what its two calls settle.
pub mod Bits
pub mod Bitmap
pub mod Calls
pub mod Table
