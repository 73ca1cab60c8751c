pub mod Decimals
pub mod Fields
pub mod Rows
pub mod Laws
