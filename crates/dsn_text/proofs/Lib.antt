mod Dates
mod ExtensionExamples
pub mod ExtensionLemmas
pub mod FaultWordsLemmas
pub mod KeyLemmas
pub mod KeyOrderLemmas
pub mod StampLemmas
mod StatusExamples
pub mod BlockOrderLemmas
pub mod StatusLemmas
pub mod TextLemmas
