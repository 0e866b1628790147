pub mod Crew
pub mod KeeperHistory
pub mod agents
pub mod desk
pub mod inner
pub mod lane
pub mod post
