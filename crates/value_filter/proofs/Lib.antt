pub mod Places
pub mod Reached
pub mod Opened
pub mod Told
pub mod Everywhere
pub mod Compared
pub mod Closing
pub mod Words
pub mod Texts
pub mod Alone
pub mod Spaced
pub mod OneAnswer
pub mod Apart
mod Keywords
