pub mod Fields
pub mod Numbers
pub mod Layout
pub mod Places
pub mod Laws
