pub mod Heaps
pub mod Failing
pub mod Lists
pub mod Seen
pub mod Spreading
