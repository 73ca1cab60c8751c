pub mod Opened
pub mod Lowered
