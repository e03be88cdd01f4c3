pub mod Angles
pub mod Examples
pub mod Rotations
pub mod Rules
pub mod Rulings
pub mod SphereRotation
pub mod RotationsLemmas
