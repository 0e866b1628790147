pub mod CloseRule
pub mod LetterCellLemmas
mod Examples
pub mod Expecting
pub mod Forgetting
pub mod HistoryLaws
pub mod HistoryLemmas
pub mod OutcomeLemmas
pub mod ReplyLemmas
pub mod SendLemmas
