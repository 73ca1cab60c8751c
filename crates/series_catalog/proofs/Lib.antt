pub mod SeriesLemmas
pub mod ReadLemmas
pub mod PutLemmas
