pub mod Rules
pub mod Narrowing
pub mod Row
pub mod Least
pub mod Numbers
pub mod FourLeast
pub mod Admitting
