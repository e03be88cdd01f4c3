pub mod Windows
pub mod Laid
pub mod Sheets
pub mod Records
pub mod Groups
