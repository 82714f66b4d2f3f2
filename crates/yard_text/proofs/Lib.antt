pub mod Lines
pub mod Bytes
pub mod Splits
pub mod Numbers
pub mod Calls
