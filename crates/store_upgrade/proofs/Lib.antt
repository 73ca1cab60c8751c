pub mod Records
pub mod Looking
pub mod Magics
pub mod Renewed
pub mod Committed
