pub mod Sweeping
pub mod Steps
pub mod Laws
