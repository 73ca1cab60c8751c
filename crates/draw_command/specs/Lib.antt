pub mod Alone
pub mod Covers
pub mod Draws
pub mod Laws
