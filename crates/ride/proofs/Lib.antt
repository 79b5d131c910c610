pub mod Ordered
pub mod Obeying
pub mod Telling
pub mod Riding
pub mod Lines
pub mod Answering
pub mod Mounted
pub mod Same
