pub mod Numbers
pub mod Limits
pub mod Projection
pub mod Slots
