pub mod Blocks
pub mod Sorting
pub mod Spots
pub mod Entries
pub mod Written
pub mod Bounds
pub mod Mounting
