pub mod Blocks
pub mod MemMoves
pub mod Passing
pub mod Tears
