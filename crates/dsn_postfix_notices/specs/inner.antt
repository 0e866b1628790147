pub mod Finishing
pub mod HandingIn
pub mod MailFound
pub mod RequestLetters
