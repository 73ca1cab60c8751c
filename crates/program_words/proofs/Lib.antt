pub mod WalkLemmas
pub mod FaultLemmas
pub mod TurnLemmas
pub mod ReadLemmas
pub mod FoundLemmas
pub mod Commands
pub mod ExportWords
pub mod StoreWords
