pub mod Record
pub mod Hex
pub mod Lengths
pub mod Writing
pub mod ReadBack
pub mod Texts
pub mod RoundTrip
pub mod Cases
