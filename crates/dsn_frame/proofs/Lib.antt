pub mod AnswerLemmas
mod Examples
pub mod Existence
pub mod FrameLaws
pub mod FrameRoom
pub mod InputLaws
pub mod OneSession
mod SessionExamples
pub mod SentAnswersLemmas
pub mod SessionFrames
pub mod SessionLemmas
pub mod SessionRunLemmas
pub mod SomeSession
pub mod WholeInputLemmas
