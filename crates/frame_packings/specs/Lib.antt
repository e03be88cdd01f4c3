pub mod Examples
pub mod Meaning
pub mod PackingLaws
pub mod Packings
pub mod TableLaws
pub mod Tables
pub mod Tests
