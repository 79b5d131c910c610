pub mod Reading
pub mod Whole
pub mod Laying
pub mod Inside
pub mod Inverse
pub mod Bits
pub mod Counting
pub mod Once
