pub mod Acts
pub mod Seam
pub mod States
