pub mod Cleans
pub mod Escapes
pub mod Fills
pub mod Readings
pub mod Parts
pub mod Writings
pub mod Frames
pub mod Judgements
