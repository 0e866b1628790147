-- Drafts: the part of a notice that its flush carries, before the outcomes are added.
use Rattle.std.specs.Prelude.{ℕ, ◌-◌, ◌^◌, nat_le, nat_lt, Bool, false, not, ◌==◌, List, [], ◌∷◌, length, Option, Some, None, is_some}
use Rattle.dsn_outcome.specs.Outcome.{first_failed}
use Rattle.dsn_text.specs.Extension.{is_extension_text}
use Rattle.dsn_text.specs.Optional.{is_none_or, unless_empty}
use Rattle.dsn_text.specs.Text.{is_address, is_envelope_id, longest_header}
use Rattle.dsn_outcome.specs.declared.draft_fault.DraftFault.{DraftFault}
use Rattle.dsn_outcome.specs.declared.draft_fault.DraftFault.TheVariants as faults
use Rattle.dsn_outcome.specs.declared.returned.Returned.{Returned}
use Rattle.dsn_outcome.specs.declared.wording.Wording.{Wording}

-- a draft; moment and arrival are in whole seconds since 1970; no return path is the null path (RFC
-- 5321 section 4.5.5); returned says whether header is the message's header or the whole message,
-- and whether its notice may be an 8bit mail; extensions are the message's extension fields (RFC
-- 3464 section 2.4), empty for none; expected is the expected number of outcomes, None for any;
-- wording is how the notice's words are chosen
pub record Draft : Type 0 where
  pub moment : ℕ
  pub arrival : ℕ
  pub return_path : Option (List ℕ)
  pub envelope_id : Option (List ℕ)
  pub header : List ℕ
  pub extensions : List ℕ
  pub expected : Option ℕ
  pub returned : Returned
  pub wording : Wording

-- whether a number of outcomes can be expected; the largest number of 32 bits encodes None
abbrev pub is_count : ℕ → Bool
is_count count = nat_lt count (2 ^ 32 - 1)

-- whether a count differs from the expected number; if none is expected, it doesn't
abbrev pub differs : Option ℕ → ℕ → Bool
differs None count = false
differs (Some expected) count = not (expected == count)

-- the fields of a draft that are checked, as they are passed; returned and wording are None if
-- their bytes are unknown
pub record DraftFields : Type 0 where
  pub return_path : List ℕ
  pub envelope_id : List ℕ
  pub header : List ℕ
  pub returned : Option Returned
  pub wording : Option Wording
  pub extensions : List ℕ

-- the checks of a draft's fields and their faults, in the order in which they are made
abbrev pub draft_checks : DraftFields → List (Bool × DraftFault)
draft_checks fields =
    (nat_le (length fields.header) longest_header, faults.Header)
    ∷ (is_none_or is_address (unless_empty fields.return_path), faults.ReturnPath)
    ∷ (is_none_or is_envelope_id (unless_empty fields.envelope_id), faults.EnvelopeId)
    ∷ (is_some fields.returned, faults.Returned)
    ∷ (is_some fields.wording, faults.Wording)
    ∷ (is_extension_text fields.extensions, faults.Extensions)
    ∷ []

-- the first fault of a draft's fields, if they have one
abbrev pub first_draft_fault : DraftFields → Option DraftFault
first_draft_fault fields = first_failed (draft_checks fields)
