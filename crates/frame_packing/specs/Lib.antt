pub mod FramePacking
pub mod Lengths
pub mod PackingIds
pub mod Propers
pub mod Messages
