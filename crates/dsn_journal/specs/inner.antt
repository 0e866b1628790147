pub mod Disk
pub mod Failures
pub mod Marks
pub mod Meaning
pub mod SettledLetters
