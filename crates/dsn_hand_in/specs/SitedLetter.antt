-- A letter as it is submitted, and what is submitted of it.
use Rattle.std.specs.Prelude.{ℕ, List}
use Rattle.dsn_outcome.specs.Letter.{Letter}
use Rattle.dsn_report.specs.Notice.{return_path_of}
use Rattle.dsn_report.specs.Outbox.{mail_data}
use Rattle.dsn_report.specs.Site.{Site}

-- the mail system that the letter's notice is from, and the letter
pub record SitedLetter : Type 0 where
  pub site : Site
  pub letter : Letter

-- its only recipient is the letter's return path
abbrev pub sited_path : SitedLetter → List ℕ
sited_path sited = return_path_of sited.letter

-- its message is the letter's notice, with the dots that SMTP adds and the final dot
abbrev pub sited_message : SitedLetter → List ℕ
sited_message sited = mail_data sited.site sited.letter
