pub mod Daemon
pub mod Harvest
pub mod NotedAnswers
pub mod Reading
pub mod Run
