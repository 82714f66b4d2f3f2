pub mod Deciding
pub mod Looks
pub mod Actives
pub mod Climbs
pub mod Nexts
pub mod Stepped
pub mod Keeping
pub mod Lockers
