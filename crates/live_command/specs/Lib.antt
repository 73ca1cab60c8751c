pub mod Running
pub mod Syncs
pub mod Shown
pub mod Ended
pub mod Ending
pub mod Drawn
pub mod Laws
