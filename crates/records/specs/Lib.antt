pub mod Cancelable
pub mod Faults
pub mod Period
pub mod Record
