pub mod Names
pub mod Refusals
pub mod Pages
pub mod Edits
pub mod Books
pub mod Axes
pub mod EditLists
pub mod Laws
