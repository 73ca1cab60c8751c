pub mod Keeping
pub mod Widening
pub mod Rastering
pub mod Places
pub mod Slots
pub mod Charted
