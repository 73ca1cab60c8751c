pub mod Sums
pub mod Costs
