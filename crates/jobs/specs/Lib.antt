pub mod View
pub mod Turns
pub mod Changes
