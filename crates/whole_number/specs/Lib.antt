pub mod Spelling
pub mod Numbers
pub mod Range
pub mod SlotTimes
