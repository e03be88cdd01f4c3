pub mod Walks
pub mod Wholes
