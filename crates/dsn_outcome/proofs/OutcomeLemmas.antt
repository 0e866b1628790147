-- Outcomes: what follows from fields without a fault.
use Rattle.std.proofs.Common.{◌≡◌, ℕ, ◌+◌, ◌-◌, ◌≤◌, Bool, true, false, List, [], ◌∷◌, ◌++◌, length, take, drop, refl, ap, ◌∙◌, arith}
use Rattle.std.specs.Prelude.{Option, Some, None, IsSome, is_some, IsTrue, if◌then◌else◌}
use Rattle.std.specs.List.{slice_range}
use Rattle.std.specs.Option.{option_map_or}
use Rattle.std.proofs.lemmas.Bool.{and_parts, false≢true, leb-true}
use Rattle.std.proofs.Math.Seq.{drop-append_seam, take-append_seam}
use Rattle.std.proofs.lemmas.Grind.{common_steps}
use Rattle.dsn_text.specs.Action.{action_of_byte, fits_class, fits_retry}
use Rattle.dsn_outcome.specs.Outcome.{Fields, Outcome, first_failed, first_outcome_fault, outcome_checks, is_type_of, IsLegalOutcome, IsOutcomeOf}
use Rattle.dsn_outcome.specs.inner.OutcomeTexts.{AreDated}
use Rattle.dsn_text.specs.Extension.{is_extension_text, longest_extension_text}
use Rattle.dsn_text.specs.Optional.{unless_empty, is_none_or}
use Rattle.dsn_text.specs.Service.{takes}
use Rattle.dsn_text.specs.Status.{is_status_code, status_class}
use Rattle.dsn_text.specs.Text.{is_address, is_mta_name, is_remark, is_type_name, is_text, clean_text, longest_address, longest_mta_name, longest_type_name, longest_clean}
use Rattle.dsn_text.proofs.ExtensionLemmas.{extension_text_read}
use Rattle.dsn_text.proofs.TextLemmas.{is_remark-clean_text}
use Rattle.dsn_text.specs.declared.service.Service.{Service}

-- every check of a list passes
abbrev pub AllPass : {F : Type 0} → List (Bool × F) → Type 0
AllPass [] = Unit {0}
AllPass (check ∷ rest) = (check.0 ≡ true) × AllPass rest

next-passes : {F : Type 0} (passes : Bool) (fault : F) (later : Option F) → (if passes then later else Some fault) ≡ None → (passes ≡ true) × (later ≡ None)
next-passes true fault later none = (refl, none)
next-passes false fault later none = cc

-- if no check is the first that fails, all pass
pub AllPass-first_failed : {F : Type 0} (checks : List (Bool × F)) → first_failed checks ≡ None → AllPass checks
AllPass-first_failed [] none = tt
AllPass-first_failed (check ∷ rest) none =
    let both = next-passes check.0 check.1 (first_failed rest) none in
    (both.0, AllPass-first_failed rest both.1)

-- every check of an outcome's fields passes
pub record Passes (service : Service) (fields : Fields) : Type 0 where
  pub recipient : IsTrue (is_address fields.recipient)
  pub original : IsTrue (is_none_or is_address (unless_empty fields.original))
  pub action : IsTrue (option_map_or (takes service) (action_of_byte fields.action) false)
  pub status : IsTrue (is_status_code fields.status)
  pub class : IsTrue (option_map_or (λ action. fits_class action (status_class fields.status)) (action_of_byte fields.action) false)
  pub mta : IsTrue (is_none_or is_mta_name (unless_empty fields.mta))
  pub diagnostic : length fields.diagnostic ≤ longest_clean
  pub reason : length fields.reason ≤ longest_clean
  pub retry : IsTrue (option_map_or (λ action. fits_retry action fields.retry_until) (action_of_byte fields.action) false)
  pub recipient_type : IsTrue (is_none_or is_type_name (unless_empty fields.recipient_type))
  pub original_type : IsTrue (is_type_of fields.original fields.original_type)
  pub diagnostic_type : IsTrue (is_type_of fields.diagnostic fields.diagnostic_type)
  pub extensions : IsTrue (is_extension_text fields.extensions)

pub passes-none : (service : Service) (fields : Fields) → first_outcome_fault service fields ≡ None → Passes service fields
unfolding first_outcome_fault
passes-none service fields none =
    let recipient = AllPass-first_failed (outcome_checks service fields) none in
    let original = recipient.1 in
    let action = original.1 in
    let status = action.1 in
    let class = status.1 in
    let mta = class.1 in
    let diagnostic = mta.1 in
    let reason = diagnostic.1 in
    let retry = reason.1 in
    let recipient_type = retry.1 in
    let original_type = recipient_type.1 in
    let diagnostic_type = original_type.1 in
    let extensions = diagnostic_type.1 in
    record {
      recipient = recipient.0;
      original = original.0;
      action = action.0;
      status = status.0;
      class = class.0;
      mta = mta.0;
      diagnostic = leb-true _ _ diagnostic.0;
      reason = leb-true _ _ reason.0;
      retry = retry.0;
      recipient_type = recipient_type.0;
      original_type = original_type.0;
      diagnostic_type = diagnostic_type.0;
      extensions = extensions.0;
    }

-- a text of a kind is no longer than the limit of its kind
length-is_text : (allowed : ℕ → Bool) (least most : ℕ) (text : List ℕ) → IsTrue (is_text allowed least most text) → length text ≤ most
length-is_text allowed least most text is = grind (arith, common_steps)

-- a text that may be missing is no longer than the limit of its kind
length-unless_empty : (allowed : ℕ → Bool) (least most : ℕ) (text : List ℕ) → IsTrue (is_none_or (is_text allowed least most) (unless_empty text)) → length text ≤ most
length-unless_empty allowed least most [] is = omega arith
length-unless_empty allowed least most (byte ∷ rest) is = length-is_text allowed least most (byte ∷ rest) is

-- a type that fits its text is empty or a valid type name, and is within the limit of type names
name-is_type_of : (text name : List ℕ) → IsTrue (is_type_of text name) → IsTrue (is_none_or is_type_name (unless_empty name))
name-is_type_of text [] is = refl
name-is_type_of text (byte ∷ rest) is = (and_parts (is_type_name (byte ∷ rest)) (is_some (unless_empty text)) is).0

-- if a type that fits its text is not empty, neither is the text
text-is_type_of : (text name : List ℕ) → IsTrue (is_type_of text name) → IsSome (unless_empty name) → IsSome (unless_empty text)
text-is_type_of text [] is said = absurd (false≢true said)
text-is_type_of text (byte ∷ rest) is said = (and_parts (is_type_name (byte ∷ rest)) (is_some (unless_empty text)) is).1

-- a cleaned text is empty only if the text is
unless_empty-clean_text : (text : List ℕ) → IsSome (unless_empty text) → IsSome (unless_empty (clean_text text))
unless_empty-clean_text [] is = is
unless_empty-clean_text (byte ∷ rest) is = refl

-- the lengths of the texts of valid fields
pub record AreShort (fields : Fields) : Type 0 where
  pub recipient : length fields.recipient ≤ longest_address
  pub original : length fields.original ≤ longest_address
  pub mta : length fields.mta ≤ longest_mta_name
  pub recipient_type : length fields.recipient_type ≤ longest_type_name
  pub original_type : length fields.original_type ≤ longest_type_name
  pub diagnostic_type : length fields.diagnostic_type ≤ longest_type_name
  pub extensions : length fields.extensions ≤ longest_extension_text
  pub diagnostic : length fields.diagnostic ≤ longest_clean
  pub reason : length fields.reason ≤ longest_clean

pub short_none : (service : Service) (fields : Fields) → first_outcome_fault service fields ≡ None → AreShort fields
short_none service fields none =
    let passes = passes-none service fields none in
    record {
      recipient = length-is_text _ _ _ fields.recipient passes.recipient;
      original = length-unless_empty _ _ _ fields.original passes.original;
      mta = length-unless_empty _ _ _ fields.mta passes.mta;
      recipient_type = length-unless_empty _ _ _ fields.recipient_type passes.recipient_type;
      original_type = length-unless_empty _ _ _ fields.original_type (name-is_type_of fields.original fields.original_type passes.original_type);
      diagnostic_type = length-unless_empty _ _ _ fields.diagnostic_type (name-is_type_of fields.diagnostic fields.diagnostic_type passes.diagnostic_type);
      extensions = (extension_text_read fields.extensions passes.extensions).short;
      diagnostic = passes.diagnostic;
      reason = passes.reason;
    }

-- a cleaned text that is short enough is a valid remark or missing
is_remark-unless_empty : (text : List ℕ) → length text ≤ longest_clean → IsTrue (is_none_or is_remark (unless_empty (clean_text text)))
is_remark-unless_empty [] short = refl
is_remark-unless_empty (byte ∷ rest) short = is_remark-clean_text (byte ∷ rest) (omega arith) short

-- the outcome of valid fields with dated moments is legal
pub legal-IsOutcomeOf : (service : Service) (fields : Fields) (outcome : Outcome) → Passes service fields → AreDated fields → IsOutcomeOf service fields outcome → IsLegalOutcome outcome
legal-IsOutcomeOf service fields outcome passes dated of = record {
  recipient_legal = rw of.recipient_is passes.recipient;
  original_legal = rw of.original_is passes.original;
  action_taken = rw of.service_is (rw of.action_is at passes.action);
  status_legal = rw of.status_is passes.status;
  class_fits = rw of.status_is (rw of.action_is at passes.class);
  mta_legal = rw of.mta_is passes.mta;
  diagnostic_clean = rw of.diagnostic_is (is_remark-unless_empty fields.diagnostic passes.diagnostic);
  reason_clean = rw of.reason_is (is_remark-unless_empty fields.reason passes.reason);
  last_attempt_dated = rw of.last_attempt_is dated.last_attempt;
  retry_until_dated = rw of.retry_until_is dated.retry_until;
  retry_fits = rw of.retry_until_is (rw of.action_is at passes.retry);
  recipient_type_legal = rw of.recipient_type_is passes.recipient_type;
  original_type_legal = rw of.original_type_is (name-is_type_of fields.original fields.original_type passes.original_type);
  original_typed = λ said. rw of.original_is (text-is_type_of fields.original fields.original_type passes.original_type (rw of.original_type_is at said));
  diagnostic_type_legal = rw of.diagnostic_type_is (name-is_type_of fields.diagnostic fields.diagnostic_type passes.diagnostic_type);
  diagnostic_typed = λ said. rw of.diagnostic_is (unless_empty-clean_text fields.diagnostic (text-is_type_of fields.diagnostic fields.diagnostic_type passes.diagnostic_type (rw of.diagnostic_type_is at said)));
  extensions_legal = rw of.extensions_is passes.extensions;
}

-- a text lies between the bytes before it and the bytes after it
pub text-between : (before text after : List ℕ) → slice_range (before ++ (text ++ after)) (length before) (length before + length text) ≡ text
text-between before text after =
    let size : length before + length text - length before ≡ length text = omega arith in
    ap (λ (n : ℕ). take n (drop (length before) (before ++ (text ++ after)))) size
    ∙ ap (take (length text)) (drop-append_seam before (text ++ after)) ∙ take-append_seam text after
