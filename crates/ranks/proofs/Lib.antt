pub mod Allowing
pub mod Banning
pub mod Comparing
pub mod Gathering
pub mod Row
pub mod Ranks
