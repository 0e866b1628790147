pub mod LogParts
pub mod QueueReading
