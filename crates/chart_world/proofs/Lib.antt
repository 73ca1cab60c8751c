pub mod Pending
pub mod Gathering
pub mod NextLine
