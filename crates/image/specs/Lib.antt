pub mod Image
pub mod Need
