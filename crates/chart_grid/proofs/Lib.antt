pub mod Floors
pub mod Heights
pub mod Columns
pub mod Slots
pub mod Windows
pub mod Rising
