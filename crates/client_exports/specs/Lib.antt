pub mod State
pub mod Owned
pub mod Steps
pub mod Answers
