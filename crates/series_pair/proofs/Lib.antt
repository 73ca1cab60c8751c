pub mod ChartLemmas
pub mod OneLemmas
