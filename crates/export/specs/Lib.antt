pub mod Copied
pub mod Results
