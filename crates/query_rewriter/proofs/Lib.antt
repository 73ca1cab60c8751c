pub mod Windows
pub mod Answered
pub mod Planned
