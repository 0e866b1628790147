pub mod FolderHashing
pub mod HashedId
pub mod PathInQueue
pub mod OwnService
pub mod QueueEntry
