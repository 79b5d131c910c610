pub mod Outcome
pub mod Cases
