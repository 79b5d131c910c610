pub mod Carrying
pub mod Cells
pub mod Filling
pub mod Riding
pub mod Telling
pub mod Demand3
pub mod One
pub mod Joining
