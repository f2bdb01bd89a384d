mod Body
mod Rules
mod File
pub mod Above
