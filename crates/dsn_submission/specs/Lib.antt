pub mod Submitter
pub mod Verdict
pub mod Waiting
pub mod WaitingLaws
pub mod inner
