pub mod Ride
pub mod Need
