-- Outcome texts: how the texts of an outcome share one piece of memory.
use Rattle.std.specs.Prelude.{IsTrue, ℕ, List, take, drop, slice_range, ◌≤◌, length, Option}
use Rattle.dsn_outcome.specs.Outcome.{Fields, Outcome}
use Rattle.dsn_outcome.specs.declared.outcome_texts.Offsets.{Offsets}
use Rattle.dsn_text.specs.Optional.{is_none_or, unless_empty}
use Rattle.dsn_text.specs.Stamp.{is_moment}
use Rattle.dsn_text.specs.declared.action.Action.{Action}
use Rattle.dsn_text.specs.declared.service.Service.{Service}

-- each of the two moments in an outcome's fields has a date if it is there
pub record AreDated (fields : Fields) : Type 0 where
  pub last_attempt : IsTrue (is_none_or is_moment fields.last_attempt)
  pub retry_until : IsTrue (is_none_or is_moment fields.retry_until)

pub record OutcomeTexts : Type 0 where
  pub recipient : List ℕ
  pub original : List ℕ
  pub mta : List ℕ
  pub recipient_type : List ℕ
  pub original_type : List ℕ
  pub diagnostic_type : List ℕ
  pub extensions : List ℕ
  pub diagnostic : List ℕ
  pub reason : List ℕ

-- the texts in these bytes; each offset is the end of a text and the beginning of the next one
abbrev pub texts_in : List ℕ → Offsets → OutcomeTexts
texts_in bytes offsets = record {
  recipient = take offsets.recipient bytes;
  original = slice_range bytes offsets.recipient offsets.original;
  mta = slice_range bytes offsets.original offsets.mta;
  recipient_type = slice_range bytes offsets.mta offsets.recipient_type;
  original_type = slice_range bytes offsets.recipient_type offsets.original_type;
  diagnostic_type = slice_range bytes offsets.original_type offsets.diagnostic_type;
  extensions = slice_range bytes offsets.diagnostic_type offsets.extensions;
  diagnostic = slice_range bytes offsets.extensions offsets.diagnostic;
  reason = drop offsets.diagnostic bytes;
}

-- the offsets are in order and within the bytes
pub record AreInOrder (bytes : List ℕ) (offsets : Offsets) : Type 0 where
  pub original : offsets.recipient ≤ offsets.original
  pub mta : offsets.original ≤ offsets.mta
  pub recipient_type : offsets.mta ≤ offsets.recipient_type
  pub original_type : offsets.recipient_type ≤ offsets.original_type
  pub diagnostic_type : offsets.original_type ≤ offsets.diagnostic_type
  pub extensions : offsets.diagnostic_type ≤ offsets.extensions
  pub diagnostic : offsets.extensions ≤ offsets.diagnostic
  pub reason : offsets.diagnostic ≤ length bytes

-- the outcome with these texts
abbrev pub outcome_of : OutcomeTexts → Service → Action → List ℕ → Option ℕ → Option ℕ → Outcome
outcome_of texts service action status last_attempt retry_until = record {
  service = service;
  recipient = texts.recipient;
  recipient_type = unless_empty texts.recipient_type;
  original = unless_empty texts.original;
  original_type = unless_empty texts.original_type;
  action = action;
  status = status;
  mta = unless_empty texts.mta;
  diagnostic = unless_empty texts.diagnostic;
  diagnostic_type = unless_empty texts.diagnostic_type;
  reason = unless_empty texts.reason;
  last_attempt = last_attempt;
  retry_until = retry_until;
  extensions = texts.extensions;
}
