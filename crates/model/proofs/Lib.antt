pub mod Relations
pub mod Lawful
pub mod Levels
pub mod Lists
pub mod Successors
pub mod Ranks
pub mod Entries
pub mod Order
pub mod Values
pub mod Reconciler
pub mod Satisfaction
pub mod Right
pub mod Comparing
mod Search
mod Splits
mod Found
pub mod Forbidden
pub mod Same
