pub mod Answers
pub mod Body
pub mod Runs
