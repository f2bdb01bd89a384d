pub mod Rows
pub mod Best
pub mod Keys
pub mod Successors
