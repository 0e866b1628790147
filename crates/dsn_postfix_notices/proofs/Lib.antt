mod HeadingExamples
mod LetterExamples
mod RequestExamples
pub mod AnsweredLaws
pub mod CarriedOutLaws
pub mod DeedLemmas
pub mod FrontLemmas
pub mod HeadingLemmas
pub mod LetterLemmas
pub mod RequestLawLemmas
pub mod RequestLetterLemmas
pub mod ServedLemmas
pub mod TellingParts
