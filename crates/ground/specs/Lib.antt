pub mod Pick
pub mod Lists
pub mod Bits
pub mod Count
pub mod Place
