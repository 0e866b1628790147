pub mod AgentLines
pub mod Journaled
pub mod Serve
pub mod SocketUses
pub mod Submitting
pub mod WatchedOutbox
