pub mod Commands
pub mod Writing
pub mod Sound
pub mod Deeds
pub mod Joining
pub mod Tables
pub mod Verdict
pub mod Refuses
