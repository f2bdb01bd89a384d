pub mod Reading
pub mod Above
