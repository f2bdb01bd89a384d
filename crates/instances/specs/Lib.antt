pub mod Instance
pub mod File
pub mod Plan
