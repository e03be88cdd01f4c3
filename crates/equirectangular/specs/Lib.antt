pub mod Equirectangular
pub mod Examples
pub mod Rules
pub mod Rulings
pub mod Same
pub mod EquirectangularBodyLemmas
