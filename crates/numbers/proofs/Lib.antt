pub mod Bits
pub mod Signs
pub mod InTurn
