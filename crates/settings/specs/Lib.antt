-- What a settings file is, what its conversions do, and the laws that their code is proved with.
pub mod Files
pub mod Conversions
pub mod Worked
pub mod Laws
