pub mod Agent
pub mod AgentLanes
pub mod Port
pub mod Serve
