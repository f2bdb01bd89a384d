pub mod Decimal
pub mod Filling
pub mod ReadBack
pub mod Texts
