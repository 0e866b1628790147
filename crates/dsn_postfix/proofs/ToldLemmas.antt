-- Which outcomes notices report, from a record on: the last one first.
use Rattle.std.proofs.Common.{◌≡◌, ◌∙◌, ◌<◌, ◌≤◌, ◌+◌, ◌-◌, Bool, true, false, ℕ, List, [], ◌∷◌, ◌++◌, drop, get_or, length, map, reverse, refl, sym, subst, ap, arith}
use Rattle.std.specs.Prelude.{◌&&◌, not, if◌then◌else◌}
use Rattle.std.specs.List.{list_any}
use Rattle.std.specs.BTreeSet.{BTreeSet}
use Rattle.std.proofs.lemmas.List.{drop_more, map-append, reverse-append}
use Rattle.dsn_text.specs.declared.service.Service.{Service}
use Rattle.dsn_postfix_files.specs.LogRecord.{LoggedFields, logged_fields_in}
use Rattle.dsn_postfix.specs.NoticePlan.{is_same_outcome, is_wanted, last_of_each, told_as, wanted_of}
use Rattle.dsn_postfix_files.specs.QueueRecipients.{RecipientFacts}
use Rattle.dsn_postfix.specs.inner.RecipientSet.{HasOutcomes, OutcomeKey}
use Rattle.dsn_postfix_files.specs.declared.log_record.LogRecord.{LogRecord}
use Rattle.dsn_postfix.specs.declared.postfix_request.PostfixRequest.{PostfixRequest}

-- the last of the records that are left, and those after it
abbrev Records : Type 0
Records = List LogRecord

-- the wanted records among them
abbrev pub wanted_in : Service → PostfixRequest → List RecipientFacts → Records → List LoggedFields
wanted_in service request queued records = wanted_of service request queued (map logged_fields_in records)

abbrev with_wanted : Bool → LoggedFields → List LoggedFields → List LoggedFields
with_wanted wanted fields later = if wanted then fields ∷ later else later

from-last : (d : LogRecord) (service : Service) (request : PostfixRequest) (queued : List RecipientFacts) (records : Records) (left : ℕ) (found : LogRecord) → 0 < left → left ≤ length records
    → logged_fields_in found ≡ told_as request (logged_fields_in (get_or records (left - 1) d))
    → with_wanted (is_wanted service request queued (logged_fields_in found)) (logged_fields_in found) (wanted_in service request queued (drop left records)) ≡ wanted_in service request queued (drop (left - 1) records)
from-last d service request queued records left found some within is =
    let next : left - 1 + 1 ≡ left = omega (arith, some) in
    ap (λ (fields : LoggedFields). with_wanted (is_wanted service request queued fields) fields (wanted_in service request queued (drop left records))) is
    ∙ sym (ap (wanted_in service request queued) (drop_more records (left - 1) d (omega (arith, some, within)))
    ∙ ap (λ (n : ℕ). wanted_in service request queued (get_or records (left - 1) d ∷ drop n records)) next)

pub seen_step : (d : LogRecord) (service : Service) (request : PostfixRequest) (queued : List RecipientFacts) (records : Records) (left : ℕ) (found : LogRecord) (seen : BTreeSet OutcomeKey) → 0 < left → left ≤ length records
    → logged_fields_in found ≡ told_as request (logged_fields_in (get_or records (left - 1) d))
    → HasOutcomes seen (with_wanted (is_wanted service request queued (logged_fields_in found)) (logged_fields_in found) (wanted_in service request queued (drop left records)))
    → HasOutcomes seen (wanted_in service request queued (drop (left - 1) records))
seen_step d service request queued records left found seen some within is has =
    subst (HasOutcomes seen) (from-last d service request queued records left found some within is) has

-- one record that is reported, and one that isn't
told-by : (wanted again told : Bool) (fields : LoggedFields) (later : List LoggedFields) → list_any (is_same_outcome fields) later ≡ again → told ≡ (wanted && not again)
    → last_of_each (with_wanted wanted fields later) ≡ (if told then fields ∷ last_of_each later else last_of_each later)
told-by true true told fields later is tells = rw (is, tells) refl
told-by true false told fields later is tells = rw (is, tells) refl
told-by false again told fields later is tells = rw tells refl

pub told_step : (d : LogRecord) (service : Service) (request : PostfixRequest) (queued : List RecipientFacts) (records told : Records) (left : ℕ) (found : LogRecord) → 0 < left → left ≤ length records
    → logged_fields_in found ≡ told_as request (logged_fields_in (get_or records (left - 1) d))
    → true ≡ (is_wanted service request queued (logged_fields_in found) && not (list_any (is_same_outcome (logged_fields_in found)) (wanted_in service request queued (drop left records))))
    → reverse (map logged_fields_in told) ≡ last_of_each (wanted_in service request queued (drop left records))
    → reverse (map logged_fields_in (told ++ found ∷ [])) ≡ last_of_each (wanted_in service request queued (drop (left - 1) records))
told_step d service request queued records told left found some within as_told is before =
    let later = wanted_in service request queued (drop left records) in
    ap reverse (map-append logged_fields_in told (found ∷ []))
    ∙ reverse-append (map logged_fields_in told) (logged_fields_in found ∷ [])
    ∙ ap (λ (fs : List LoggedFields). logged_fields_in found ∷ fs) before
    ∙ sym (told-by (is_wanted service request queued (logged_fields_in found)) (list_any (is_same_outcome (logged_fields_in found)) later) true (logged_fields_in found) later refl is)
    ∙ ap last_of_each (from-last d service request queued records left found some within as_told)

pub passed_step : (d : LogRecord) (service : Service) (request : PostfixRequest) (queued : List RecipientFacts) (records told : Records) (left : ℕ) (found : LogRecord) → 0 < left → left ≤ length records
    → logged_fields_in found ≡ told_as request (logged_fields_in (get_or records (left - 1) d))
    → false ≡ (is_wanted service request queued (logged_fields_in found) && not (list_any (is_same_outcome (logged_fields_in found)) (wanted_in service request queued (drop left records))))
    → reverse (map logged_fields_in told) ≡ last_of_each (wanted_in service request queued (drop left records))
    → reverse (map logged_fields_in told) ≡ last_of_each (wanted_in service request queued (drop (left - 1) records))
passed_step d service request queued records told left found some within as_told is before =
    let later = wanted_in service request queued (drop left records) in
    before
    ∙ sym (told-by (is_wanted service request queued (logged_fields_in found)) (list_any (is_same_outcome (logged_fields_in found)) later) false (logged_fields_in found) later refl is)
    ∙ ap last_of_each (from-last d service request queued records left found some within as_told)

-- all reported records, in their order
pub reversed_told : (told after : List LogRecord) (all : List LoggedFields) → after ≡ reverse told → reverse (map logged_fields_in told) ≡ all → map logged_fields_in after ≡ all
reversed_told told after all is before = ap (map logged_fields_in) is ∙ map-reversed told ∙ before
  where
    map-reversed : (xs : List LogRecord) → map logged_fields_in (reverse xs) ≡ reverse (map logged_fields_in xs)
    map-reversed [] = refl
    map-reversed (x ∷ xs) =
        ap (map logged_fields_in) (reverse-append (x ∷ []) xs)
        ∙ map-append logged_fields_in (reverse xs) (x ∷ [])
        ∙ ap (λ (ys : List LoggedFields). ys ++ logged_fields_in x ∷ []) (map-reversed xs)
        ∙ sym (reverse-append (logged_fields_in x ∷ []) (map logged_fields_in xs))
