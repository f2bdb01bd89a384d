pub mod Choices
pub mod Values
pub mod Entries
pub mod Answers
