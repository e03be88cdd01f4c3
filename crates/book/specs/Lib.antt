pub mod Faults
pub mod Models
pub mod Units
pub mod Book
pub mod Events
pub mod Trust
