pub mod DigitLemmas
pub mod OneRow
pub mod PartLemmas
pub mod PlainLemmas
pub mod RecordLemmas
pub mod RowLemmas
