pub mod batch_run
pub mod client
pub mod daemon
pub mod inner
