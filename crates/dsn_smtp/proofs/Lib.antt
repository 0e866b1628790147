mod ExtensionExamples
mod HandInExamples
mod PipeliningExamples
mod ReplyExamples
pub mod CommandLineLemmas
pub mod ExtensionLemmas
pub mod PipeliningLemmas
pub mod QueueIdLemmas
pub mod GroupLemmas
pub mod ReadAheadLemmas
pub mod ReplyLemmas
pub mod ReplyReadingLemmas
pub mod TransactionLemmas
