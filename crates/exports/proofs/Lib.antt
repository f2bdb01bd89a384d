pub mod Called
pub mod Demands
