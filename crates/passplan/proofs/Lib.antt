pub mod Printing
pub mod Parts
pub mod Room
