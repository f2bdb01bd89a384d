pub mod Decoded
pub mod Reader
