pub mod ContentLightLevel
pub mod Examples
pub mod Rules
pub mod Rulings
pub mod Same
