pub mod Picture
pub mod Strip
