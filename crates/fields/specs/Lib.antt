pub mod Reading
pub mod Writing
pub mod Answers
pub mod Outcomes
pub mod Runs
pub mod Shorts
