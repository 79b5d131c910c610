pub mod Spans
pub mod States
pub mod Commands
pub mod Rows
pub mod Ends
pub mod Formed
pub mod Runs
pub mod Answers
