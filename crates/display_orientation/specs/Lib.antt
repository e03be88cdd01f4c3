pub mod DisplayOrientation
pub mod Examples
pub mod Rules
pub mod Rulings
pub mod Same
