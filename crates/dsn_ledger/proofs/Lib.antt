mod Adding
pub mod Awaiting
mod Beginning
mod Blindness
mod CarryingOut
mod ClosingOrder
mod CompactionExamples
mod DamageExamples
mod EarlierRuns
mod FileExamples
mod ForgettingExamples
mod GoingOn
pub mod Goodbyes
mod Heading
mod HigherLimits
pub mod JournalFolderLemmas
mod Keeping
mod KeptBookExamples
pub mod KeptBooks
mod LaterMarks
mod Leading
mod LedgerExamples
pub mod LedgersInPlace
mod LettersGoOn
mod LettersToPost
mod MakingRoom
mod OneHistory
mod OpenOnesLeft
mod RaisingExamples
mod Releasing
mod ReleasingExamples
pub mod ReplayLimits
mod ShorterFiles
mod SnapshotBooks
mod SnapshotExamples
mod Snapshots
mod StayingExamples
mod WithinLimits
