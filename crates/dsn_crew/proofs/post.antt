pub mod LetterSinkLemmas
pub mod LetterSourceLemmas
pub mod ParcelLemmas
pub mod PostingLemmas
pub mod SendLemmas
