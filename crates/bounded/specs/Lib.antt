pub mod Bounded
pub mod Places
pub mod Tests
pub mod Values
