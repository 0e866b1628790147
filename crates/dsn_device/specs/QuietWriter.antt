-- Quiet writers: their model, and the effect of their calls.
use Rattle.std.specs.Prelude.{ℕ, Bool, List}
use Rattle.dsn_device.specs.UntilFailure.{WritesUntilFailure, FlushesUntilFailure, MarksUntilFailure}
use Rattle.dsn_device.specs.declared.drain.Drain

-- the drain, and whether it has failed
pub record QuietWriter (D : Type 0) : Type 0 where
  pub drain : D
  pub failed : Bool

-- the effect of writing a text
abbrev pub Writes : {D : Type 0} → Drain.Ghosts D → QuietWriter D → QuietWriter D → List ℕ → Type 0
Writes drain old new text = WritesUntilFailure drain old.failed new.failed old.drain new.drain text

-- the effect of a flush
abbrev pub Flushes : {D : Type 0} → Drain.Ghosts D → QuietWriter D → QuietWriter D → Type 0
Flushes drain old new = FlushesUntilFailure drain old.failed new.failed old.drain new.drain

-- the effect of marking the letter with this serial
abbrev pub MarksLetter :
    {D : Type 0} → Drain.Ghosts D → QuietWriter D → QuietWriter D → ℕ → Type 0
MarksLetter drain old new serial =
    MarksUntilFailure drain old.failed new.failed old.drain new.drain serial
