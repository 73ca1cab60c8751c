pub mod Canvas
pub mod Segment
pub mod Raster
pub mod Ideal
pub mod Stored
pub mod Run
