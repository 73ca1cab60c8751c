pub mod Pairs
pub mod Mixed
pub mod Views
pub mod Caches
pub mod Puts
pub mod Laws
