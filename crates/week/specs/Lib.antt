pub mod Week
pub mod Fault
pub mod Release
pub mod Drawing
pub mod Reason
pub mod Report
