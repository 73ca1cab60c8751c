pub mod Ranging
mod Columns
pub mod Ends
pub mod Flatness
mod Clearing
mod Nested
mod Same
mod Depth
mod Distinct
mod Marks
mod Counting
pub mod Orders
pub mod Grids
