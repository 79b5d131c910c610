pub mod Fits
pub mod Tells
