pub mod Crossing
pub mod Report
