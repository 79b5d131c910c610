pub mod Lists
pub mod Items
pub mod States
pub mod Onward
pub mod Slots
pub mod Visit
pub mod Keys
pub mod Explore
