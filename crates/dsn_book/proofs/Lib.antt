pub mod BookLemmas
pub mod CaseLemmas
pub mod ClosedKeysLemmas
pub mod ClosingLemmas
pub mod CrashLemmas
pub mod EntryLemmas
mod Examples
pub mod HalvingLemmas
pub mod IndexLemmas
pub mod ListLemmas
pub mod OpenLineLemmas
pub mod OrderLemmas
pub mod PermutationLemmas
mod ReleaseExamples
pub mod ReleaseLemmas
pub mod RemoveLemmas
pub mod RoomLemmas
pub mod StepLemmas
