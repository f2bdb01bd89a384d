pub mod Least
pub mod Rules
