pub mod Exported
pub mod Call
pub mod Version
