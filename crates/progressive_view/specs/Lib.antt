pub mod Used
pub mod Covers
pub mod Places
pub mod Telling
pub mod Laws
