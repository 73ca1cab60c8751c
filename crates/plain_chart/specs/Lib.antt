pub mod Samples
pub mod Chart
