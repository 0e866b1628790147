pub mod BlockLemmas
mod BoundaryLaw
mod BoundaryLemmas
mod CountExamples
mod CountLemmas
mod DashLemmas
mod DateText
mod DivisionLemmas
mod DotsLemmas
mod Examples
pub mod ExtensionLemmas
mod GrammarLemmas
pub mod HeaderLemmas
pub mod LineWriterLemmas
mod LinesLemmas
pub mod OutgoingLemmas
pub mod PieceLemmas
mod PlainLemmas
mod PlainWordsExamples
pub mod NoticeTextLemmas
pub mod PosterLemmas
pub mod PrefaceLemmas
mod ReaderExamples
mod RoomLemmas
pub mod Rules
pub mod SendLemmas
mod TemplateExamples
pub mod TemplateFileLemmas
pub mod TemplateLemmas
