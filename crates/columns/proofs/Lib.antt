pub mod Lengths
pub mod Columns
pub mod Lines
pub mod ReadBack
pub mod RoundTrip
pub mod Exact
pub mod Cases
