pub mod Points
pub mod Rows
pub mod Heights
pub mod Gathered
pub mod Folded
pub mod Spanned
pub mod Drawn
pub mod Laws
