pub mod Schema
pub mod Layout
pub mod Table
