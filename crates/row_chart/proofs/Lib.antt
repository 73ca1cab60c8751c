pub mod Order
pub mod Ranged
pub mod Picture
