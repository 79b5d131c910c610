pub mod Orders
pub mod Card
pub mod Writing
pub mod Build
