pub mod Found
pub mod Valid
pub mod Ordered
pub mod Planning
