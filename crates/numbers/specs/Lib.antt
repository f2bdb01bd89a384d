pub mod Bits
pub mod Lowest
pub mod Members
