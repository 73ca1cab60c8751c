pub mod SpellLemmas
pub mod RuleLemmas
pub mod DoingLemmas
pub mod DiskLemmas
pub mod GoodLemmas
pub mod Counting
pub mod WorkLemmas
pub mod RunLemmas
