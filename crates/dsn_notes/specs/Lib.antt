pub mod Lengths
pub mod Notes
pub mod OpenLogs
pub mod inner
