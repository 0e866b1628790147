pub mod clients
