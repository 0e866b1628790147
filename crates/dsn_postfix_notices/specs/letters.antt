pub mod LetterFault
pub mod NoticeDraft
pub mod NoticeLetter
pub mod PlainStatus
pub mod ReportedMessage
pub mod ToldOutcome
