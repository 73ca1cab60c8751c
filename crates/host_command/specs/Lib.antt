pub mod Ended
pub mod Ending
pub mod Drawn
pub mod Values
pub mod Laws
