pub mod Blocked
