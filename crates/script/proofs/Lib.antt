pub mod Cuts
pub mod Reading
pub mod Told
pub mod Laws
