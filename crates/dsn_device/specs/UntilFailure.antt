-- The effect of writing texts, flushing and marking letters until the drain's first failure, after
-- which nothing is done.
use Rattle.std.specs.Prelude.{◌≡◌, ℕ, Bool, true, false, not, List, Option, None}
use Rattle.std.specs.Io.KnownBytes.{Appends, Keeps}
use Rattle.dsn_device.specs.Failures.{counted}
use Rattle.dsn_device.specs.Flushes.{flushed}
use Rattle.dsn_device.specs.Marking.{LeavesItsCount, SayCountOrNext, marked_by}
use Rattle.dsn_device.specs.Throughout.{LeavesThroughout, StandsStill}
use Rattle.dsn_device.specs.Transfer.{AppendsPart}
use Rattle.dsn_device.specs.declared.drain.Drain

-- the call takes no time: the marks that a crash may leave don't change
abbrev pub TakesNoTime : {W : Type 0} → Drain.Ghosts W → W → W → Type 0
TakesNoTime drain old new =
    StandsStill (drain.moment old) (drain.moment new) (drain.left_since old) (drain.left_since new)

-- a crash now leaves marks that encode the drain's count, and nothing else
abbrev pub LeavesMarked : {W : Type 0} → Drain.Ghosts W → W → Type 0
LeavesMarked drain now = LeavesItsCount drain.moment drain.left_since drain.say drain.marked now

-- at each moment a crash leaves marks that encode the first state's count, or that count with the
-- letter with this serial
abbrev pub LeavesMarkedOrNext : {W : Type 0} → Drain.Ghosts W → W → W → ℕ → Type 0
LeavesMarkedOrNext drain old new serial =
    LeavesThroughout drain.moment drain.left_since old new
    (SayCountOrNext drain.say (drain.marked old) serial)

-- the result of writing a text, given whether the drain had failed before and whether it has failed
-- now; it appends all of it, or a front but not all, or nothing
abbrev pub Sent : Bool → Bool → Option (List ℕ) → Option (List ℕ) → List ℕ → Type 0
Sent false false old new text = Appends old new text
Sent false true old new text = AppendsPart old new text
Sent true false old new text = ⊥
Sent true true old new text = Keeps old new

-- the count after a write: one more failure if the drain fails now, otherwise unchanged
abbrev pub counts_failure : Bool → Bool → ℕ → ℕ
counts_failure false failed count = counted failed count
counts_failure true failed count = count

-- a text was written to a drain, unless the drain had failed before
pub record WritesUntilFailure {W : Type 0} (drain : Drain.Ghosts W) (before after : Bool) (old new : W)
    (text : List ℕ) : Type 0 where
  pub sent : Sent before after (drain.contents old) (drain.contents new) text
  pub idle : before ≡ true → (after ≡ true) × (new ≡ old)
  pub count : drain.failures new ≡ counts_failure before after (drain.failures old)
  pub no_flush : drain.flushes new ≡ drain.flushes old
  pub marked : drain.marked new ≡ drain.marked old
  pub no_moment : TakesNoTime drain old new
  pub surely : drain.flushes_surely old → drain.flushes_surely new
  pub stays_steady : drain.steady old → drain.steady new × (drain.failures new ≡ drain.failures old)

-- a drain was flushed once, unless it had failed before
pub record FlushesUntilFailure {W : Type 0} (drain : Drain.Ghosts W) (before after : Bool)
    (old new : W) : Type 0 where
  pub kept : Keeps (drain.contents old) (drain.contents new)
  pub idle : before ≡ true → (after ≡ true) × (new ≡ old)
  pub count : drain.failures new ≡ counts_failure before after (drain.failures old)
  pub once : drain.flushes new ≡ counted (not before) (drain.flushes old)
  pub passed_on : after ≡ false → drain.unflushed new ≡ false
  pub marked : drain.marked new ≡ drain.marked old
  pub no_moment : TakesNoTime drain old new
  pub surely : drain.flushes_surely old → drain.flushes_surely new × (after ≡ before)
  pub stays_steady : drain.steady old → drain.steady new × (drain.failures new ≡ drain.failures old)

-- a letter was marked, unless the drain had failed before
pub record MarksUntilFailure {W : Type 0} (drain : Drain.Ghosts W) (before after : Bool)
    (old new : W) (serial : ℕ) : Type 0 where
  pub kept : Keeps (drain.contents old) (drain.contents new)
  pub idle : before ≡ true → (after ≡ true) × (new ≡ old)
  pub count : drain.failures new ≡ counts_failure before after (drain.failures old)
  pub no_flush : drain.flushes new ≡ drain.flushes old
  pub unflushed : drain.unflushed new ≡ drain.unflushed old
  pub marked : drain.marked new ≡ marked_by (not after) serial (drain.marked old)
  pub unmarking : drain.marked old ≡ None → after ≡ before
  pub any_moment : LeavesMarked drain old → LeavesMarkedOrNext drain old new serial
  pub leaves : after ≡ false → LeavesMarked drain old → LeavesMarked drain new
  pub surely : drain.flushes_surely old → drain.flushes_surely new × (after ≡ before)
  pub stays_steady : drain.steady old → drain.steady new × (drain.failures new ≡ drain.failures old)

-- the whole text was taken, and one flush was made after all of it
pub record TakenAndFlushed {W : Type 0} (drain : Drain.Ghosts W) (old new : W)
    (text : List ℕ) : Type 0 where
  pub taken : Appends (drain.contents old) (drain.contents new) text
  pub once : drain.flushes new ≡ flushed (drain.flushes old)
  pub passed_on : drain.unflushed new ≡ false
  pub surely : drain.flushes_surely old → drain.flushes_surely new

-- the drain failed within the text, and was not flushed; or it failed at the one flush after the
-- whole text, and doesn't flush surely
pub data Lost {W : Type 0} (drain : Drain.Ghosts W) (old new : W) (text : List ℕ) : Type 0 where
  in_text : AppendsPart (drain.contents old) (drain.contents new) text
      → drain.flushes new ≡ drain.flushes old → Lost drain old new text
  at_flush : Appends (drain.contents old) (drain.contents new) text
      → drain.flushes new ≡ flushed (drain.flushes old) → ¬ drain.flushes_surely old
      → Lost drain old new text

-- the result of writing a text and flushing once, given whether the drain had failed before and
-- whether it has failed now
abbrev pub WrittenAndFlushed : {W : Type 0} → Drain.Ghosts W → Bool → Bool → W → W → List ℕ → Type 0
WrittenAndFlushed drain false false old new text = TakenAndFlushed drain old new text
WrittenAndFlushed drain false true old new text = Lost drain old new text
WrittenAndFlushed drain true false old new text = ⊥
WrittenAndFlushed drain true true old new text = new ≡ old

-- the whole text was taken, one flush was made after all of it, and then the letter was marked
pub record TakenAndMarked {W : Type 0} (drain : Drain.Ghosts W) (old new : W)
    (text : List ℕ) (serial : ℕ) : Type 0 where
  pub flushed : TakenAndFlushed drain old new text
  pub marked : drain.marked new ≡ marked_by true serial (drain.marked old)
  pub any_moment : LeavesMarked drain old → LeavesMarkedOrNext drain old new serial
  pub leaves : LeavesMarked drain old → LeavesMarked drain new

-- the drain failed and the letter is not marked: its text was lost, and no crash leaves it marked;
-- or the mark failed after the flush, the drain marks letters and doesn't flush surely, and a crash
-- may leave the letter marked
pub data Unmarked {W : Type 0} (drain : Drain.Ghosts W) (old new : W) (text : List ℕ) (serial : ℕ)
    : Type 0 where
  unflushed : Lost drain old new text → drain.marked new ≡ drain.marked old
      → TakesNoTime drain old new → Unmarked drain old new text serial
  at_mark : Appends (drain.contents old) (drain.contents new) text
      → drain.flushes new ≡ flushed (drain.flushes old) → drain.unflushed new ≡ false
      → drain.marked new ≡ drain.marked old → ¬ (drain.marked old ≡ None) → ¬ drain.flushes_surely old
      → (LeavesMarked drain old → LeavesMarkedOrNext drain old new serial)
      → Unmarked drain old new text serial

-- the result of writing a text, flushing once and marking the letter with this serial, given
-- whether the drain had failed before and whether it has failed now
abbrev pub WrittenAndMarked :
    {W : Type 0} → Drain.Ghosts W → Bool → Bool → W → W → List ℕ → ℕ → Type 0
WrittenAndMarked drain false false old new text serial = TakenAndMarked drain old new text serial
WrittenAndMarked drain false true old new text serial = Unmarked drain old new text serial
WrittenAndMarked drain true false old new text serial = ⊥
WrittenAndMarked drain true true old new text serial = new ≡ old
