pub mod StripLemmas
pub mod ShownLemmas
