pub mod LookLemmas
pub mod ReadLemmas
pub mod ReplyLemmas
