pub mod Turning
pub mod Standing
pub mod Shown
pub mod Going
pub mod Ending
pub mod WorkLaws
pub mod Blaming
