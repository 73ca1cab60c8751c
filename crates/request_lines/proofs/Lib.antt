pub mod NumberLemmas
pub mod TokenLemmas
pub mod GrammarLemmas
pub mod RowLemmas
pub mod Spelt
pub mod SpeltRanges
pub mod SpeltLines
