-- The turns of a dialogue over a stream: what was sent and what was received, in this order.
use Rattle.std.specs.Prelude.{◌≡◌, ℕ, Bool, true, false, List, [], ◌∷◌, Option, Some, None}
use Rattle.std.specs.Io.KnownBytes.{Appends, Keeps}
use Rattle.dsn_device.specs.Failures.{counted}
use Rattle.dsn_device.specs.Flushes.{flushed}
use Rattle.dsn_device.specs.Transfer.{AppendsPart}
use Rattle.dsn_device.specs.declared.drain.Drain
use Rattle.dsn_device.specs.declared.source.Source
use Rattle.dsn_smtp.specs.ReplyReading.{ReadsEach, ReadsNoReply, ReadsReply}
use Rattle.dsn_smtp.specs.declared.reply_fault.ReplyFault.{ReplyFault}
use Rattle.dsn_smtp.specs.declared.reply_fault.ReplyFault.TheVariants.{Nothing, CutShort, NoReply, TooLong, Trailing, Read}

-- one turn: a reply was received, with its code and all its bytes, or couldn't be; replies to a group of commands were
-- received, with their codes, up to one that couldn't be, if there is one; a text was sent whole, or wasn't
pub data Turn : Type 0 where
  Heard : List ℕ → List ℕ → Turn
  HeardNone : ReplyFault → Turn
  HeardEach : List (List ℕ) → Option ReplyFault → Turn
  Said : List ℕ → Turn
  SaidPart : List ℕ → Turn

-- whether a fault of reading is a failure of the device
abbrev pub is_of_device : ReplyFault → Bool
is_of_device Nothing = false
is_of_device CutShort = false
is_of_device NoReply = false
is_of_device TooLong = false
is_of_device Trailing = false
is_of_device Read = true

-- whether a reply is missing since the device failed
abbrev pub is_lost_by_device : Option ReplyFault → Bool
is_lost_by_device None = false
is_lost_by_device (Some fault) = is_of_device fault

-- a stream was read from, and not written to; `failed` says whether it failed once
pub record OnlyReads {S : Type 0} (source : Source.Ghosts S) (failed : Bool) (old new : S) : Type 0 where
  pub held : Keeps (source.holds old) (source.holds new)
  pub no_flush : source.flushes new ≡ source.flushes old
  pub unflushed : source.unflushed new ≡ source.unflushed old
  pub count : source.failures new ≡ counted failed (source.failures old)
  pub stays_steady : source.steady old → source.steady new × (source.failures new ≡ source.failures old)

-- a stream took a whole text, was flushed once, and was not read from
pub record Says {S : Type 0} (drain : Drain.Ghosts S) (old new : S) (text : List ℕ) : Type 0 where
  pub taken : Appends (drain.contents old) (drain.contents new) text
  pub unread : Keeps (drain.left old) (drain.left new)
  pub once : drain.flushes new ≡ flushed (drain.flushes old)
  pub passed_on : drain.unflushed new ≡ false
  pub count : drain.failures new ≡ drain.failures old
  pub stays_steady : drain.steady old → drain.steady new

-- a stream failed within a text, or at the flush after it
pub data LosesText {S : Type 0} (drain : Drain.Ghosts S) (old new : S) (text : List ℕ) : Type 0 where
  in_text : AppendsPart (drain.contents old) (drain.contents new) text
      → drain.flushes new ≡ drain.flushes old → LosesText drain old new text
  at_flush : Appends (drain.contents old) (drain.contents new) text
      → drain.flushes new ≡ flushed (drain.flushes old) → LosesText drain old new text

pub record FailsToSay {S : Type 0} (drain : Drain.Ghosts S) (old new : S) (text : List ℕ) : Type 0 where
  pub lost : LosesText drain old new text
  pub unread : Keeps (drain.left old) (drain.left new)
  pub count : drain.failures new ≡ counted true (drain.failures old)
  pub stays_steady : drain.steady old → drain.steady new × (drain.failures new ≡ drain.failures old)

-- one turn took a stream from one state to the other
abbrev pub TakesTurn : {S : Type 0} → Source.Ghosts S → Drain.Ghosts S → S → S → Turn → Type 0
TakesTurn source drain old new (Heard code bytes) =
    ReadsReply (source.remaining old) (source.remaining new) code bytes × OnlyReads source false old new
TakesTurn source drain old new (HeardNone fault) =
    ReadsNoReply (source.remaining old) (source.remaining new) fault × OnlyReads source (is_of_device fault) old new
TakesTurn source drain old new (HeardEach codes missing) =
    ReadsEach (source.remaining old) (source.remaining new) codes missing × OnlyReads source (is_lost_by_device missing) old new
TakesTurn source drain old new (Said text) = Says drain old new text
TakesTurn source drain old new (SaidPart text) = FailsToSay drain old new text

-- exactly these turns, in this order, took a stream from one state to the other
abbrev pub TakesTurns : {S : Type 0} → Source.Ghosts S → Drain.Ghosts S → S → S → List Turn → Type 0
TakesTurns source drain old new [] = new ≡ old
TakesTurns {S} source drain old new (turn ∷ turns) =
    (between : S) × TakesTurn source drain old between turn × TakesTurns source drain between new turns
