pub mod Writing
pub mod Splitting
pub mod Choosing
pub mod Taken
pub mod Ridden
