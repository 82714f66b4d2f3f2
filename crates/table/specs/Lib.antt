pub mod Numbers
pub mod View
pub mod Room
pub mod Answers
