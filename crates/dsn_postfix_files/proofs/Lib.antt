mod LogExamples
mod LogFileLemmas
mod LogLineLemmas
mod LogPartLemmas
mod LogPartsWhole
mod LogPicked
mod LogReadBack
mod LogRoundTrip
mod LogSaidLines
mod LogSpaces
mod LogWritten
mod MessageExamples
mod MessageFactsLemmas
mod MessageHeaderExamples
mod MessageHeaderLemmas
mod MessageTextExamples
mod QueueExamples
mod QueueListingLemmas
mod QueueRecipientLemmas
mod QueueWalkLemmas
mod RecipientExamples
pub mod LogRecordLemmas
pub mod MessageTextLemmas
