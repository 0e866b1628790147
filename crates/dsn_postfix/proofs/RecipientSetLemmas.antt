-- What a set of outcomes says of a list of records.
use Rattle.std.proofs.Common.{◌≡◌, ◌∙◌, ℕ, Bool, true, false, cond, List, [], ◌∷◌, refl, sym, ap, arith}
use Rattle.std.specs.Prelude.{◌==◌, ◌&&◌, ◌||◌, nat_lt, not}
use Rattle.std.specs.BTreeSet as sorted
use Rattle.std.specs.BTreeSet.{BTreeSet}
use Rattle.std.specs.Cmp.Lexicographic.{slice_cmp}
use Rattle.std.specs.List.{list_any}
use Rattle.std.specs.Ordering.{is_eq, nat_cmp, ordering_then}
use Rattle.std.specs.Str.{bytes_eq}
use Rattle.std.specs.declared.cmp.Ordering.{Ordering}
use Rattle.std.specs.declared.cmp.Ordering.TheVariants.{Less, Equal, Greater}
use Rattle.std.proofs.lemmas.Cmp.{nat_eq_equiv, nat_list_eq_equiv}
use Rattle.std.proofs.lemmas.Map.Text.{is_eq-slice_cmp}
use Rattle.dsn_postfix_files.specs.LogRecord.{LoggedFields, logged_fields_in}
use Rattle.dsn_postfix.specs.NoticePlan.{is_same_outcome}
use Rattle.dsn_postfix.specs.inner.RecipientSet.{HasOutcomes, OutcomeKey, is_of_outcome, outcome_cmp}
use Rattle.dsn_postfix_files.specs.declared.log_record.LogRecord.{LogRecord}

-- no other record has the outcome of a record without a place
pub no-place : (one : LoggedFields) (later : List LoggedFields) → one.offset ≡ 0 → list_any (is_same_outcome one) later ≡ false
no-place one [] none = refl
no-place one (other ∷ later) none =
    ap (λ (n : ℕ). (nat_lt 0 n && (n == other.offset && (bytes_eq one.recipient other.recipient && (bytes_eq one.status other.status && (bytes_eq one.action other.action && bytes_eq one.reason other.reason))))) || list_any (is_same_outcome one) later) none
    ∙ no-place one later none

pub twice_not : (one other : Bool) → one ≡ not other → not one ≡ other
twice_not one true is = ap not is
twice_not one false is = ap not is

-- ---- outcomes tie if they are the same

tied-then : (first second : Ordering) → is_eq (ordering_then first second) ≡ (is_eq first && is_eq second)
tied-then Less second = refl
tied-then Equal second = refl
tied-then Greater second = refl

tied-by : (less same : Bool) → (less ≡ true → same ≡ false) → is_eq (cond less Less (cond same Equal Greater)) ≡ same
tied-by true same apart = sym (apart refl)
tied-by false true apart = refl
tied-by false false apart = refl

tied-numbers : (a b : ℕ) → is_eq (nat_cmp a b) ≡ (a == b)
tied-numbers a b = tied-by (nat_lt a b) (a == b) (λ less. grind (arith, less))

regrouped : (a b c d e : Bool) → ((((a && b) && c) && d) && e) ≡ (a && (b && (c && (d && e))))
regrouped true true true d e = refl
regrouped true true false d e = refl
regrouped true false c d e = refl
regrouped false b c d e = refl

tied-five : (a b c d e : Ordering) → is_eq (ordering_then (ordering_then (ordering_then (ordering_then a b) c) d) e) ≡ (is_eq a && (is_eq b && (is_eq c && (is_eq d && is_eq e))))
tied-five a b c d e =
    tied-then (ordering_then (ordering_then (ordering_then a b) c) d) e
    ∙ ap (λ (t : Bool). t && is_eq e) (tied-then (ordering_then (ordering_then a b) c) d
    ∙ ap (λ (t : Bool). t && is_eq d) (tied-then (ordering_then a b) c
    ∙ ap (λ (t : Bool). t && is_eq c) (tied-then a b)))
    ∙ regrouped (is_eq a) (is_eq b) (is_eq c) (is_eq d) (is_eq e)

tied-texts : (one other : List ℕ) → is_eq (slice_cmp nat_cmp one other) ≡ bytes_eq other one
tied-texts one other = is_eq-slice_cmp one other ∙ nat_list_eq_equiv.symm one other

tied-outcomes : (one other : OutcomeKey) → is_eq (outcome_cmp one other) ≡ (other.0 == one.0 && (bytes_eq other.1.now one.1.now && (bytes_eq other.2.now one.2.now && (bytes_eq other.3.now one.3.now && bytes_eq other.4.now one.4.now))))
tied-outcomes one other =
    tied-five (nat_cmp one.0 other.0) (slice_cmp nat_cmp one.1.now other.1.now) (slice_cmp nat_cmp one.2.now other.2.now) (slice_cmp nat_cmp one.3.now other.3.now) (slice_cmp nat_cmp one.4.now other.4.now)
    ∙ (λ i. (tied-numbers one.0 other.0 ∙ nat_eq_equiv.symm one.0 other.0) i && (tied-texts one.1.now other.1.now i && (tied-texts one.2.now other.2.now i && (tied-texts one.3.now other.3.now i && tied-texts one.4.now other.4.now i))))

-- ---- one outcome more

and-some : (same some other : Bool) → (same ≡ true → some ≡ true) → (same && other) ≡ (some && (same && other))
and-some true true other if_same = refl
and-some true false other if_same = grind (arith, if_same refl)
and-some false true other if_same = refl
and-some false false other if_same = refl

or-by : (test other : Bool) → cond test true other ≡ (test || other)
or-by true other = refl
or-by false other = refl

abbrev outcome_in : LogRecord → OutcomeKey
outcome_in found = (found.offset, found.recipient, found.status, found.action, found.reason)

is-its-outcome : (found : LogRecord) (outcome : OutcomeKey) → nat_lt 0 found.offset ≡ true → is_eq (outcome_cmp (outcome_in found) outcome) ≡ is_of_outcome outcome (logged_fields_in found)
is-its-outcome found outcome some =
    tied-outcomes (outcome_in found) outcome
    ∙ and-some (outcome.0 == found.offset) (nat_lt 0 outcome.0) _ (λ same. grind (arith, some, same))

pub one_outcome_more : (found : LogRecord) (later : List LoggedFields) (before after : BTreeSet OutcomeKey) → nat_lt 0 found.offset ≡ true → HasOutcomes before later
    → ((outcome : OutcomeKey) → sorted.contains outcome_cmp after outcome ≡ cond (is_eq (outcome_cmp (outcome_in found) outcome)) true (sorted.contains outcome_cmp before outcome))
    → HasOutcomes after (logged_fields_in found ∷ later)
one_outcome_more found later before after some has added outcome =
    added outcome
    ∙ or-by (is_eq (outcome_cmp (outcome_in found) outcome)) (sorted.contains outcome_cmp before outcome)
    ∙ (λ i. is-its-outcome found outcome some i || has outcome i)
