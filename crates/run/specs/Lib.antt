pub mod Carry
pub mod Runs
pub mod Within
pub mod Sound
