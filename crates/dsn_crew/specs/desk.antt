pub mod Close
pub mod Desk
pub mod Intake
pub mod Open
