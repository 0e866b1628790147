-- Letters: the outcome of a record, and an address that needs no quotes.
use Rattle.std.proofs.Common.{◌≡◌, ℕ, true, false, List, [], ◌∷◌, Some, None, refl, sym, subst, ap, ◌∙◌, map, Option, inl, inr}
use Rattle.std.specs.Option.{option_map, unwrap_or}
use Rattle.std.specs.Prelude.{All, IsSome}
use Rattle.std.proofs.lemmas.List.Elements.{All-cons, All-nil}
use Rattle.std.proofs.lemmas.Bool.{false≢true}
use Rattle.dsn_outcome.specs.Outcome.{Fields, IsOutcomeOf, Outcome}
use Rattle.dsn_postfix.specs.QuotedAddress.{needs_no_quotes}
use Rattle.dsn_text.specs.Optional.{unless_empty}
use Rattle.dsn_text.specs.declared.service.Service.{Service}
use Rattle.dsn_outcome.specs.declared.draft_fault.DraftFault.{DraftFault}
use Rattle.dsn_outcome.specs.declared.draft_fault.DraftFault.TheVariants as draft
use Rattle.dsn_outcome.specs.declared.outcome_fault.OutcomeFault.{OutcomeFault}
use Rattle.dsn_outcome.specs.declared.outcome_fault.OutcomeFault.TheVariants as outcome
use Rattle.dsn_outcome.specs.declared.returned.Returned.{Returned}
use Rattle.dsn_outcome.specs.declared.wording.Wording.{Wording}
use Rattle.dsn_postfix_files.specs.LogRecord.{LoggedFields}
use Rattle.dsn_outcome.specs.Draft.{DraftFields, first_draft_fault}
use Rattle.dsn_postfix.specs.PlannedNotice.{NoticeFacts}
use Rattle.dsn_postfix.specs.VerpPath.{notice_address}
use Rattle.dsn_postfix_notices.specs.declared.letters.letter_fault.LetterFault.{LetterFault}
use Rattle.dsn_postfix_notices.specs.letters.NoticeDraft.{draft_fields_told, first_draft_fault_told}
use Rattle.dsn_postfix_notices.specs.letters.ReportedMessage.{MessageSaid}
use Rattle.dsn_postfix_notices.specs.letters.LetterFault.{IsLetterFault, of_draft, of_outcome}
use Rattle.dsn_postfix_notices.specs.letters.ToldOutcome.{outcome_told, outcome_with}

-- an outcome has the values of its fields
pub outcome_is : {service : Service} {fields : Fields} {outcome : Outcome} → IsOutcomeOf service fields outcome → outcome ≡ outcome_with service fields
outcome_is it =
    rw (it.action_is, sym it.service_is, sym it.recipient_is, sym it.recipient_type_is, sym it.original_is, sym it.original_type_is, sym it.status_is, sym it.mta_is, sym it.diagnostic_is, sym it.diagnostic_type_is, sym it.reason_is, sym it.last_attempt_is, sym it.retry_until_is, sym it.extensions_is)
    refl

-- an address that needs no quotes isn't empty
pub some_address : (address : List ℕ) → needs_no_quotes address ≡ true → IsSome (unless_empty address)
unfolding needs_no_quotes
some_address [] plain = absurd (false≢true plain)
some_address (byte ∷ rest) plain = search

-- the fault of a refused draft, or of a refused outcome, is the fault of the letter
pub draft_fault_is : (found : Option DraftFault) (fault : DraftFault) → fault ≡ unwrap_or found draft.NoMemory → IsLetterFault (option_map of_draft found) (of_draft fault)
draft_fault_is None fault is = inl (ap of_draft is)
draft_fault_is (Some found) fault is = inr (ap (λ it. Some (of_draft it)) (sym is))

pub outcome_fault_is : (found : Option OutcomeFault) (fault : OutcomeFault) → fault ≡ unwrap_or found outcome.NoMemory → IsLetterFault (option_map of_outcome found) (of_outcome fault)
outcome_fault_is None fault is = inl (ap of_outcome is)
outcome_fault_is (Some found) fault is = inr (ap (λ it. Some (of_outcome it)) (sym is))

-- fields of a draft that have the same parts
abbrev fields_with : (path id header extensions : List ℕ) (returned : Option Returned) (wording : Option Wording) → DraftFields
fields_with path id header extensions returned wording = record {
  return_path = path;
  envelope_id = id;
  header = header;
  returned = returned;
  wording = wording;
  extensions = extensions;
}

pub fields_are : (path path2 id header header2 extensions extensions2 : List ℕ) (returned returned2 : Option Returned) (wording wording2 : Option Wording)
    → path ≡ path2 → header ≡ header2 → extensions ≡ extensions2 → returned ≡ returned2 → wording ≡ wording2
    → fields_with path id header extensions returned wording ≡ fields_with path2 id header2 extensions2 returned2 wording2
fields_are path path2 id header header2 extensions extensions2 returned returned2 wording wording2 p h e r w = rw (p, h, e, r, w) refl

-- the fault of a refused draft is the fault of the letter, for the draft of a notice
pub draft_fault_told_is : (message : MessageSaid) (notice : NoticeFacts) (refused : DraftFault) (fault : LetterFault)
    → needs_no_quotes (notice_address notice) ≡ true
    → refused ≡ unwrap_or (first_draft_fault (draft_fields_told message notice)) draft.NoMemory
    → fault ≡ of_draft refused
    → IsLetterFault (first_draft_fault_told message notice) fault
draft_fault_told_is message notice refused fault unquoted is from =
    subst (IsLetterFault (first_draft_fault_told message notice)) (sym from)
    (rw unquoted (draft_fault_is (first_draft_fault (draft_fields_told message notice)) refused is))

-- the outcomes of a notice are of its service
pub told_of_service : (service : Service) (until : Option ℕ) (told : List LoggedFields) (outcomes : List Outcome)
    → outcomes ≡ map (outcome_told service until) told → All (λ (outcome : Outcome). outcome.service ≡ service) outcomes
told_of_service service until told outcomes are = subst (All (λ (outcome : Outcome). outcome.service ≡ service)) (sym are) (each told)
  where
    each : (told : List LoggedFields) → All (λ (outcome : Outcome). outcome.service ≡ service) (map (outcome_told service until) told)
    each [] = All-nil (λ (outcome : Outcome). outcome.service ≡ service)
    each (fields ∷ rest) = All-cons (λ (outcome : Outcome). outcome.service ≡ service) (outcome_told service until fields) (map (outcome_told service until) rest) refl (each rest)
