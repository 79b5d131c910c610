pub mod Rec
pub mod File
pub mod Items
pub mod Calls
pub mod Count
