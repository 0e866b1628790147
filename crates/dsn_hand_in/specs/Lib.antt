pub mod JournalMarks
pub mod MailLaws
pub mod MailOutlet
pub mod SitedLetter
