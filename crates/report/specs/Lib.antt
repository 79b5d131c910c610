pub mod Text
pub mod Lines
pub mod Printed
pub mod Steps
