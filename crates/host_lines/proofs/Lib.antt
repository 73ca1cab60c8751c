pub mod LineLemmas
pub mod PlaceLemmas
pub mod NamedLemmas
pub mod SpellLemmas
