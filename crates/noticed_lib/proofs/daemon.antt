pub mod AgentLinesLemmas
pub mod JournaledLemmas
pub mod ServeLemmas
mod SocketUsesExamples
