pub mod Stores
pub mod Causes
pub mod Kept
pub mod Few
