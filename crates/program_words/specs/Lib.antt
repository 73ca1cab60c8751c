pub mod CommandLine
pub mod Found
pub mod Errors
pub mod Words
pub mod Stores
