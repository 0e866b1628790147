-- Sets in which outcomes and recipients are looked up, compared with the lists of the definitions.
use Rattle.std.specs.Prelude.{◌≡◌, ◌==◌, ◌&&◌, nat_lt, Bool, ℕ, List}
use Rattle.std.specs.Borrow.{Bor}
use Rattle.std.specs.BTreeSet as sorted
use Rattle.std.specs.BTreeSet.{BTreeSet}
use Rattle.std.specs.Cmp.Lexicographic.{slice_cmp}
use Rattle.std.specs.List.{list_any}
use Rattle.std.specs.Ordering.{nat_cmp, ordering_then}
use Rattle.std.specs.declared.cmp.Ordering.{Ordering}
use Rattle.std.specs.Str.{bytes_eq}
use Rattle.dsn_text.specs.declared.service.Service.{Service}
use Rattle.dsn_postfix_files.specs.LogRecord.{LoggedFields}
use Rattle.dsn_postfix.specs.NoticePlan.{is_past}
use Rattle.dsn_postfix_files.specs.QueueRecipients.{RecipientFacts}

-- what identifies an outcome: a recipient's place in the queue file and its address, the status, the action and the
-- reason
abbrev pub OutcomeKey : Type 0
OutcomeKey = ℕ × Bor (List ℕ) × Bor (List ℕ) × Bor (List ℕ) × Bor (List ℕ)

-- the order of outcomes in a set
abbrev pub outcome_cmp : OutcomeKey → OutcomeKey → Ordering
outcome_cmp one other =
    ordering_then (
    ordering_then (
    ordering_then (ordering_then (nat_cmp one.0 other.0) (slice_cmp nat_cmp one.1.now other.1.now)) (slice_cmp nat_cmp one.2.now other.2.now))
    (slice_cmp nat_cmp one.3.now other.3.now))
    (slice_cmp nat_cmp one.4.now other.4.now)

-- a record has this outcome
abbrev pub is_of_outcome : OutcomeKey → LoggedFields → Bool
is_of_outcome outcome fields =
    nat_lt 0 outcome.0
    && (outcome.0 == fields.offset
    && (bytes_eq outcome.1.now fields.recipient
    && (bytes_eq outcome.2.now fields.status
    && (bytes_eq outcome.3.now fields.action && bytes_eq outcome.4.now fields.reason))))

-- a set has exactly the outcomes of these records whose recipient has a place
abbrev pub HasOutcomes : BTreeSet OutcomeKey → List LoggedFields → Type 0
HasOutcomes seen records = (outcome : OutcomeKey) → sorted.contains outcome_cmp seen outcome ≡ list_any (is_of_outcome outcome) records

-- a set has exactly the places of recipients that a log no longer reports
abbrev pub HasPast : BTreeSet ℕ → Service → List RecipientFacts → Type 0
HasPast past service queued = (place : ℕ) → sorted.contains nat_cmp past place ≡ is_past service queued place
