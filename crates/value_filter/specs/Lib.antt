pub mod Expressions
pub mod Boxes
pub mod Steps
pub mod Pieces
pub mod Grammar
pub mod Reading
pub mod Telling
pub mod Spacing
