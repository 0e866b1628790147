-- Outcomes: the result of one recipient's delivery, and which outcomes are legal (RFC 3464 section
-- 2.3).
use Rattle.std.specs.Prelude.{◌≡◌, ℕ, Bool, true, false, ◌&&◌, List, [], ◌∷◌, length, Option, Some, None, is_some, IsSome, IsTrue, if◌then◌else◌, nat_le}
use Rattle.std.specs.Option.{option_map_or}
use Rattle.dsn_text.specs.Action.{action_of_byte, fits_class, fits_retry}
use Rattle.dsn_text.specs.Extension.{is_extension_text}
use Rattle.dsn_text.specs.Optional.{is_none_or, unless_empty}
use Rattle.dsn_text.specs.Service.{takes}
use Rattle.dsn_text.specs.Stamp.{is_moment}
use Rattle.dsn_text.specs.Text.{is_address, is_mta_name, is_remark, is_type_name, longest_clean, clean_text}
use Rattle.dsn_text.specs.Status.{is_status_code, status_class}
use Rattle.dsn_text.specs.declared.action.Action.{Action}
use Rattle.dsn_outcome.specs.declared.outcome_fault.OutcomeFault.{OutcomeFault}
use Rattle.dsn_outcome.specs.declared.outcome_fault.OutcomeFault.TheVariants.{BadRecipient, BadOriginal, BadAction, BadStatus, StatusClass, BadMta, LongDiagnostic, LongReason, RetryUntil, RecipientType, OriginalType, DiagnosticType, Extension}
use Rattle.dsn_text.specs.declared.service.Service.{Service}

-- the outcome of one recipient; diagnostic and reason are clean; the two moments are in whole
-- seconds since 1970; a text whose type is None has the usual type; the extension fields are lines
-- that end with LF, empty for none
pub record Outcome : Type 0 where
  pub service : Service
  pub recipient : List ℕ
  pub recipient_type : Option (List ℕ)
  pub original : Option (List ℕ)
  pub original_type : Option (List ℕ)
  pub action : Action
  pub status : List ℕ
  pub mta : Option (List ℕ)
  pub diagnostic : Option (List ℕ)
  pub diagnostic_type : Option (List ℕ)
  pub reason : Option (List ℕ)
  pub last_attempt : Option ℕ
  pub retry_until : Option ℕ
  pub extensions : List ℕ

-- the fields of an outcome as an agent passes them; an empty text means a missing one
pub record Fields : Type 0 where
  pub recipient : List ℕ
  pub recipient_type : List ℕ
  pub original : List ℕ
  pub original_type : List ℕ
  pub action : ℕ
  pub status : List ℕ
  pub mta : List ℕ
  pub diagnostic : List ℕ
  pub diagnostic_type : List ℕ
  pub reason : List ℕ
  pub last_attempt : Option ℕ
  pub retry_until : Option ℕ
  pub extensions : List ℕ

-- the fault of the first check that fails
abbrev pub first_failed : {F : Type 0} → List (Bool × F) → Option F
first_failed [] = None
first_failed (check ∷ rest) = if check.0 then first_failed rest else Some check.1

-- the type of a text that may be missing (RFC 3464 sections 2.3.1 and 2.3.6): it is empty, or it is
-- a valid type name and the text isn't empty
abbrev pub is_type_of : List ℕ → List ℕ → Bool
is_type_of text [] = true
is_type_of text (byte ∷ rest) = is_type_name (byte ∷ rest) && is_some (unless_empty text)

-- the checks of the types of the final recipient, the original recipient and the diagnostic, and of
-- the extension fields
abbrev pub later_checks : (original diagnostic recipient_type original_type diagnostic_type extensions : List ℕ)
    → List (Bool × OutcomeFault)
later_checks original diagnostic recipient_type original_type diagnostic_type extensions =
    (is_none_or is_type_name (unless_empty recipient_type), RecipientType)
    ∷ (is_type_of original original_type, OriginalType)
    ∷ (is_type_of diagnostic diagnostic_type, DiagnosticType)
    ∷ (is_extension_text extensions, Extension)
    ∷ []

-- the checks of an outcome's fields and their faults, in the order in which they are made
abbrev pub outcome_checks : Service → Fields → List (Bool × OutcomeFault)
outcome_checks service fields =
    (is_address fields.recipient, BadRecipient)
    ∷ (option_map_or is_address (unless_empty fields.original) true, BadOriginal)
    ∷ (option_map_or (takes service) (action_of_byte fields.action) false, BadAction)
    ∷ (is_status_code fields.status, BadStatus)
    ∷ (
      option_map_or (λ action. fits_class action (status_class fields.status))
          (action_of_byte fields.action) false,
      StatusClass,
    )
    ∷ (option_map_or is_mta_name (unless_empty fields.mta) true, BadMta)
    ∷ (nat_le (length fields.diagnostic) longest_clean, LongDiagnostic)
    ∷ (nat_le (length fields.reason) longest_clean, LongReason)
    ∷ (
      option_map_or (λ action. fits_retry action fields.retry_until)
          (action_of_byte fields.action) false,
      RetryUntil,
    )
    ∷ later_checks fields.original fields.diagnostic fields.recipient_type fields.original_type
    fields.diagnostic_type fields.extensions

-- the first fault of an outcome's fields, if they have one
unfoldable pub first_outcome_fault : Service → Fields → Option OutcomeFault
first_outcome_fault service fields = first_failed (outcome_checks service fields)

-- the outcome has the values of valid fields, with diagnostic and reason cleaned
pub record IsOutcomeOf (service : Service) (fields : Fields) (outcome : Outcome) : Type 0 where
  pub service_is : outcome.service ≡ service
  pub recipient_is : outcome.recipient ≡ fields.recipient
  pub recipient_type_is : outcome.recipient_type ≡ unless_empty fields.recipient_type
  pub original_is : outcome.original ≡ unless_empty fields.original
  pub original_type_is : outcome.original_type ≡ unless_empty fields.original_type
  pub action_is : action_of_byte fields.action ≡ Some outcome.action
  pub status_is : outcome.status ≡ fields.status
  pub mta_is : outcome.mta ≡ unless_empty fields.mta
  pub diagnostic_is : outcome.diagnostic ≡ unless_empty (clean_text fields.diagnostic)
  pub diagnostic_type_is : outcome.diagnostic_type ≡ unless_empty fields.diagnostic_type
  pub reason_is : outcome.reason ≡ unless_empty (clean_text fields.reason)
  pub last_attempt_is : outcome.last_attempt ≡ fields.last_attempt
  pub retry_until_is : outcome.retry_until ≡ fields.retry_until
  pub extensions_is : outcome.extensions ≡ fields.extensions

-- a legal outcome (RFC 3464 sections 2.3.1 to 2.3.9 and 2.4): the service takes the action; the
-- status is a code whose class fits the action; each text is within its bounds, and a diagnostic or
-- reason is not empty; the two moments have dates; only a delayed recipient is retried; each type
-- is a valid type name and has its text; the extension fields are valid
pub record IsLegalOutcome (outcome : Outcome) : Type 0 where
  pub recipient_legal : IsTrue (is_address outcome.recipient)
  pub original_legal : IsTrue (is_none_or is_address outcome.original)
  pub action_taken : IsTrue (takes outcome.service outcome.action)
  pub status_legal : IsTrue (is_status_code outcome.status)
  pub class_fits : IsTrue (fits_class outcome.action (status_class outcome.status))
  pub mta_legal : IsTrue (is_none_or is_mta_name outcome.mta)
  pub diagnostic_clean : IsTrue (is_none_or is_remark outcome.diagnostic)
  pub reason_clean : IsTrue (is_none_or is_remark outcome.reason)
  pub last_attempt_dated : IsTrue (is_none_or is_moment outcome.last_attempt)
  pub retry_until_dated : IsTrue (is_none_or is_moment outcome.retry_until)
  pub retry_fits : IsTrue (fits_retry outcome.action outcome.retry_until)
  pub recipient_type_legal : IsTrue (is_none_or is_type_name outcome.recipient_type)
  pub original_type_legal : IsTrue (is_none_or is_type_name outcome.original_type)
  pub original_typed : IsSome outcome.original_type → IsSome outcome.original
  pub diagnostic_type_legal : IsTrue (is_none_or is_type_name outcome.diagnostic_type)
  pub diagnostic_typed : IsSome outcome.diagnostic_type → IsSome outcome.diagnostic
  pub extensions_legal : IsTrue (is_extension_text outcome.extensions)
