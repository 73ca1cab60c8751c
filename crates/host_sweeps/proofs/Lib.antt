pub mod PushLemmas
pub mod StepLemmas
pub mod ClearLemmas
pub mod LawLemmas
