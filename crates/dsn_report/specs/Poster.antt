-- Posters: the text that they have written and the text that they write next.
use Rattle.std.specs.Prelude.{ℕ, Bool, List, [], ◌++◌, if◌then◌else◌}
use Rattle.dsn_text.specs.FaultCode.{outbox_failed_code, outbox_write_code}
use Rattle.dsn_outcome.specs.Letter.{Letter}
use Rattle.dsn_report.specs.Outbox.{greeting, goodbye, mail_transaction}
use Rattle.dsn_report.specs.Site.{Site}
use Rattle.dsn_report.specs.declared.post_fault.PostFault.{PostFault}
use Rattle.dsn_report.specs.declared.post_fault.PostFault.TheVariants.{Write, Failed}

-- the site that notices come from, the outbox, whether the greeting is written, and whether the
-- outbox has failed
pub record Poster (W : Type 0) : Type 0 where
  pub site : Site
  pub outbox : W
  pub greeted : Bool
  pub failed : Bool

-- the greeting, if it isn't written yet
abbrev pub greeting_due : {W : Type 0} → Poster W → List ℕ
greeting_due poster = if poster.greeted then [] else greeting poster.site

-- the text that a poster writes for a letter
unfoldable pub post_text : {W : Type 0} → Poster W → Letter → List ℕ
post_text poster letter = greeting_due poster ++ mail_transaction poster.site letter

-- the text that a poster writes at its end, with QUIT
unfoldable pub finish_text : {W : Type 0} → Poster W → List ℕ
finish_text poster = greeting_due poster ++ goodbye

-- the fault of a letter that wasn't posted, which depends on whether the outbox had failed before
abbrev pub post_fault : Bool → Letter → PostFault
post_fault failed letter = if failed then Failed letter else Write letter

abbrev pub post_fault_code : PostFault → ℕ
post_fault_code (Write letter) = outbox_write_code
post_fault_code (Failed letter) = outbox_failed_code

-- the letter that a fault returns
abbrev pub letter_handed_back : PostFault → Letter
letter_handed_back (Write letter) = letter
letter_handed_back (Failed letter) = letter
