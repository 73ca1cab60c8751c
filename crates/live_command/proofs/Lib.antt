pub mod RunLemmas
pub mod ReadLemmas
pub mod SyncLemmas
pub mod AnswerLemmas
pub mod MayLemmas
pub mod FaultLemmas
pub mod DiskLemmas
pub mod Drawing
