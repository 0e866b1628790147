pub mod BatchLemmas
pub mod MemoryLemmas
pub mod ReadingLemmas
pub mod RunLemmas
pub mod SteadyLemmas
