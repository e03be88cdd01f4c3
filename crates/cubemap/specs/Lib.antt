pub mod Cubemap
pub mod Examples
pub mod Rules
pub mod Rulings
