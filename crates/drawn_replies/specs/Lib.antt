pub mod Mirrors
pub mod Pictures
pub mod Sent
pub mod Laws
