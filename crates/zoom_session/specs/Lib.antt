pub mod Views
pub mod Planned
pub mod Sessions
pub mod Places
pub mod Plans
