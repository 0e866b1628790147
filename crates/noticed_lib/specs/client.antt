pub mod Ask
pub mod Send
pub mod SendFault
pub mod SendLaws
