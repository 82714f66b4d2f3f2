pub mod Words
pub mod Input
pub mod Reading
pub mod Report
