pub mod AgentLemmas
mod PortExamples
pub mod PortLemmas
mod ServeExamples
pub mod ServeLemmas
pub mod ServedLemmas
