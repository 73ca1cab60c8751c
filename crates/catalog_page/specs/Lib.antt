pub mod Fields
pub mod Entries
pub mod Layout
pub mod Spelling
pub mod Places
pub mod Laws
