pub mod Kept
pub mod Puts
pub mod Sizes
pub mod Round
