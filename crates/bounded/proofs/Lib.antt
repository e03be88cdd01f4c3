pub mod Cells
pub mod Filtering
pub mod Going
pub mod Appending
