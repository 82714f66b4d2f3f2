pub mod Tallies
pub mod Files
pub mod States
pub mod Sets
pub mod Listing
pub mod Worked
