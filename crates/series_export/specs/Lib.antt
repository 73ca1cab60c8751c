pub mod Exports
pub mod Cuts
pub mod Faults
pub mod RoundTrips
pub mod Room
pub mod Pieces
pub mod Laws
