pub mod Errors
pub mod DiskKept
pub mod CoverLemmas
pub mod CoverLaws
pub mod DrawnFrames
