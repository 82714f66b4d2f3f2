pub mod Stores
pub mod Parts
pub mod Works
