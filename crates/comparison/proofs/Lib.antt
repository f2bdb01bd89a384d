pub mod Better
pub mod Good
pub mod Flagging
pub mod Call
