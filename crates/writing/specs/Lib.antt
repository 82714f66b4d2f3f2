pub mod Puts
pub mod Files
pub mod Numbers
