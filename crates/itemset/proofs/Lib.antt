pub mod Laws
pub mod Counting
