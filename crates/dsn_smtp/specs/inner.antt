pub mod CommandLine
pub mod GroupReplies
pub mod ReadAhead
pub mod ReplyState
