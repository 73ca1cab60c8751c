pub mod Steps
pub mod HeapLemmas
pub mod PageKeys
pub mod Layouts
pub mod KnownPlaces
pub mod ListHeaps
