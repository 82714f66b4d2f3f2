pub mod Told
pub mod Plain
pub mod Runs
pub mod Looks
pub mod Writes
pub mod Yard
