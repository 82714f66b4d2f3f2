pub mod Codes
pub mod Tallies
pub mod Slots
pub mod View
