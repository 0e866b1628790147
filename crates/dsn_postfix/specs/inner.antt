pub mod ListState
pub mod RecipientSet
