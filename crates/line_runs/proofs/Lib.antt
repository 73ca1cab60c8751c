pub mod PauseLemmas
pub mod GoingLemmas
pub mod Outcomes
