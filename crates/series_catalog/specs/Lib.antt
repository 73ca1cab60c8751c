pub mod Catalogs
pub mod Reading
pub mod Shown
