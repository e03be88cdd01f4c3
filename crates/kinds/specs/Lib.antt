pub mod Contents
pub mod Examples
pub mod Faults
pub mod Model
pub mod Outcome
pub mod Rulings
pub mod Single
pub mod Singles
