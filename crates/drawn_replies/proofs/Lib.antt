mod Holders
mod Kept
mod Agreement
mod Steps
mod Naming
mod Mirroring
mod Tops
mod Following
pub mod Sending
pub mod OneSession
