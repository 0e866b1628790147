-- A notice to be made: its addressee, what it returns of the message, and the outcomes that it reports.
use Rattle.std.specs.Prelude.{ℕ, List, Option}
use Rattle.dsn_text.specs.declared.service.Service.{Service}
use Rattle.dsn_postfix_files.specs.LogRecord.{LoggedFields}
use Rattle.dsn_postfix.specs.declared.returned_part.ReturnedPart.{ReturnedPart}

-- there are delimiters if the address of the notice contains the recipient
pub record NoticeFacts : Type 0 where
  pub to : List ℕ
  pub delimiters : Option (List ℕ)
  pub service : Service
  pub returned : ReturnedPart
  pub outcomes : List LoggedFields
