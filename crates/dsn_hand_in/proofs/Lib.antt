pub mod CrashLemmas
pub mod JournalMarksLemmas
mod MailExamples
pub mod PlacesLemmas
pub mod SendLemmas
pub mod SettledLemmas
pub mod SettledQueue
pub mod CourseLemmas
