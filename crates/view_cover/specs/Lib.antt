pub mod Scene
pub mod Front
pub mod Cover
pub mod Chart
pub mod Area
pub mod Walk
pub mod Across
