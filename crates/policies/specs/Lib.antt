pub mod Policies
pub mod Pass
pub mod Widths
pub mod Rows
