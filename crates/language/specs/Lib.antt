pub mod Language
pub mod Words
pub mod Written
