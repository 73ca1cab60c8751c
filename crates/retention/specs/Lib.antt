pub mod Sweeps
pub mod Drops
pub mod Steps
pub mod Moving
pub mod Sweeping
pub mod Damage
pub mod Stepping
pub mod Faults
