pub mod Kept
pub mod Scans
