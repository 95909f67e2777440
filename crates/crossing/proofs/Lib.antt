pub mod Places
pub mod Messages
pub mod Arriving
