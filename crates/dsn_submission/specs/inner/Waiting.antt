-- Letters that wait, as the program holds them.
use Rattle.std.specs.Prelude.{ℕ, min, List, fold, Option, Some, None}
use Rattle.dsn_submission.specs.Waiting.{IsQueue, Queue}
use Rattle.dsn_submission.specs.declared.waiting.Waits.{Waits}
use Rattle.dsn_submission.specs.declared.waiting.Waiting.TheInside.{Inside}

-- the queue that the program's fields are
abbrev pub queue_of : {T : Type 0} → Inside T → Queue T
queue_of waiting = record {
  mark = waiting.mark;
  letters = waiting.letters.items;
  in_hand = waiting.in_hand;
  failures = waiting.failures;
  opens = waiting.opens;
}

abbrev pub IsWaiting : {T : Type 0} → Inside T → Type 0
IsWaiting waiting = IsQueue (queue_of waiting)

-- the earlier of a moment and that at which a letter is due
abbrev pub earlier_due : {T : Type 0} → Option ℕ → Option (Waits T) → Option ℕ
earlier_due least None = least
earlier_due None (Some letter) = Some letter.due
earlier_due (Some least) (Some letter) = Some (min least letter.due)

-- the earliest moment at which a letter is due
abbrev pub least_due : {T : Type 0} → List (Option (Waits T)) → Option ℕ
least_due letters = fold earlier_due None letters
