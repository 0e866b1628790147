pub mod Failures
pub mod Posting
pub mod Records
pub mod Snapshot
