pub mod Satisfaction
pub mod Order
pub mod Reconciling
pub mod Comparing
pub mod Ranks
