pub mod CountsLemmas
pub mod FlatMapLemmas
pub mod ThroughoutLemmas
pub mod TransferLemmas
pub mod UntilFailureLemmas
