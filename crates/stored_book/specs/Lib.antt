pub mod Records
pub mod Standing
pub mod OneSeries
pub mod Changing
pub mod Books
pub mod Damage
pub mod Laws
