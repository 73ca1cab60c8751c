mod Words
mod Layouts
pub mod Counting
pub mod Spacing
mod Writing
mod Leaving
mod Starting
mod Placing
mod Caching
mod Marking
mod Taken
mod Changing
mod Reading
pub mod Apart
