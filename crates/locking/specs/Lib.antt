pub mod Lists
pub mod Tree
pub mod Serial
pub mod Serializable
pub mod Progress
pub mod Sample
