pub mod Fault
pub mod Kind
pub mod Law
pub mod Row
pub mod Valve
pub mod Rows
pub mod Faults
pub mod Valves
