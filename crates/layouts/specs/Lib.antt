pub mod Bits
pub mod Faults
pub mod Frames
pub mod Layout
pub mod Payloads
