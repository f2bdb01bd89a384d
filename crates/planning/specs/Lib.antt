pub mod Plan
pub mod Sweep
