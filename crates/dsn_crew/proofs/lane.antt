pub mod AgentLemmas
pub mod CloseLemmas
mod Examples
pub mod RuleLemmas
pub mod SumLemmas
