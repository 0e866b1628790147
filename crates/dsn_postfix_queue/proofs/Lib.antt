mod PathExamples
pub mod OwnServiceLemmas
pub mod PathLemmas
mod ServicePathExamples
