pub mod HeardClient
pub mod ServedClient
