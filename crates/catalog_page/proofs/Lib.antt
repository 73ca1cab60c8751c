pub mod Numbers
pub mod Spelled
pub mod Fit
pub mod Pages
pub mod Breaks
pub mod RecordPlaces
