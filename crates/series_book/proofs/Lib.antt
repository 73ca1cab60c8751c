pub mod PageLemmas
pub mod SlotLemmas
pub mod BookLemmas
pub mod EditLemmas
pub mod LawLemmas
pub mod EditListLemmas
pub mod RefusalLemmas
