pub mod Fault
pub mod Waiting
pub mod Lanes
pub mod Runs
pub mod Queue
