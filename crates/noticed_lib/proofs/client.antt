pub mod AskLemmas
pub mod LawLemmas
pub mod Rules
mod SendExamples
pub mod SendLemmas
