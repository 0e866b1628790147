pub mod inner
pub mod queue_folder
