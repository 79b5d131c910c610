pub mod Flow
pub mod Judges
