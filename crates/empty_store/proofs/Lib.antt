pub mod PagesMade
pub mod DisksMade
pub mod Lowered
