pub mod Due
pub mod Reader
pub mod Decoded
