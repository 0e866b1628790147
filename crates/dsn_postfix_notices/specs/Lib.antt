pub mod inner
pub mod letters
pub mod requests
