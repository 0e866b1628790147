pub mod Batch
pub mod MemoryRun
pub mod Requests
