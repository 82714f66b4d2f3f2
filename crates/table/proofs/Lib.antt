pub mod Moving
pub mod Logs
