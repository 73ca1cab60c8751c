pub mod Ranges
pub mod Flat
pub mod Needed
pub mod Wanted
pub mod Listed
pub mod Laws
