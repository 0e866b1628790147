mod WaitingExamples
pub mod WaitingLemmas
pub mod LawLemmas
pub mod NextMomentLemmas
pub mod SubmitterLemmas
