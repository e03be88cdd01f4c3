pub mod Begun
pub mod Brought
pub mod Saved
pub mod Served
pub mod Resumed
