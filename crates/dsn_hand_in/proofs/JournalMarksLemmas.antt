-- What becomes of the marks of a journal when one more letter is to be kept as settled.
use Rattle.std.proofs.Common.{◌≡◌, ◌⊎◌, inl, inr, ℕ, Bool, true, false, not, Result, Ok, Err, OnErr, OnOk, is_ok, refl, subst}
use Rattle.dsn_device.specs.Failures.{counted}
use Rattle.dsn_journal.specs.Marks.{LeavesTheEdges, Marks}
use Rattle.dsn_journal.specs.Moments.{LeavesOnly}
use Rattle.dsn_journal.specs.Settling.{KeepsAlso, SaysEdgesOrAlso}
use Rattle.dsn_journal.specs.declared.disk.Disk
use Rattle.dsn_hand_in.specs.JournalMarks.{KeepsSettled}

module _ {D : Type 0} (disk : Disk.Ghosts D) (old new : Marks D) (serial : ℕ) where
  keeps_by_result : {U E : Type 0} (result : Result U E) → KeepsAlso old.edges serial (is_ok result) new.edges
      → OnOk result ((old.settled ≡ true) × (new.settled ≡ true))
      → OnErr result ((new ≡ old) ⊎ ((old.settled ≡ true) × (new.settled ≡ false)))
      → OnOk result (LeavesTheEdges disk new)
      → (LeavesTheEdges disk old → LeavesOnly disk old.journal.disk new.journal.disk (SaysEdgesOrAlso serial old.edges))
      → (old.settled ≡ true → disk.failures new.journal.disk ≡ counted (not new.settled) (disk.failures old.journal.disk))
      → KeepsSettled disk old serial (is_ok result) new
  keeps_by_result (Ok done) keeps settled apart leaves moments count = record {
    keeps = keeps;
    durable = λ ok. leaves;
    any_moment = moments;
    unchanged = λ failed. cc;
    unsettled = λ un. absurd (cc (settled.0, un));
    count = count;
  }
  keeps_by_result (Err why) keeps settled apart leaves moments count = record {
    keeps = keeps;
    durable = λ ok. cc;
    any_moment = moments;
    unchanged = λ failed same. elim apart [ inl stays ↦ stays | inr broke ↦ absurd (cc (broke.0, broke.1, same)) ];
    unsettled = λ un. (refl, elim apart [ inl stays ↦ stays | inr broke ↦ absurd (cc (broke.0, un)) ]);
    count = count;
  }

  -- the call succeeded or failed as `settle` did
  pub keeps_settled : {U E : Type 0} (result : Result U E) (ok : Bool) → is_ok result ≡ ok → KeepsAlso old.edges serial (is_ok result) new.edges
      → OnOk result ((old.settled ≡ true) × (new.settled ≡ true))
      → OnErr result ((new ≡ old) ⊎ ((old.settled ≡ true) × (new.settled ≡ false)))
      → OnOk result (LeavesTheEdges disk new)
      → (LeavesTheEdges disk old → LeavesOnly disk old.journal.disk new.journal.disk (SaysEdgesOrAlso serial old.edges))
      → (old.settled ≡ true → disk.failures new.journal.disk ≡ counted (not new.settled) (disk.failures old.journal.disk))
      → KeepsSettled disk old serial ok new
  keeps_settled result ok is keeps settled apart leaves moments count =
      subst (λ (b : Bool). KeepsSettled disk old serial b new) is (keeps_by_result result keeps settled apart leaves moments count)
