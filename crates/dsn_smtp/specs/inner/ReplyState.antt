-- The state of reading within a reply, and the result of scanning some bytes.
use Rattle.std.specs.Prelude.{Bool, true, false, ℕ, ◌==◌, [], ◌∷◌, slice_index, if◌then◌else◌, List, ◌≡◌, ◌<◌, Option, ◌+◌, ◌≤◌, length, take, drop}
use Rattle.std.specs.Io.KnownBytes.{Consumes}
use Rattle.dsn_smtp.specs.ReplyCode.{is_reply_code}
use Rattle.dsn_smtp.specs.ReplyReading.{EndsBeforeReply}
use Rattle.dsn_smtp.specs.declared.reply_fault.ReplyFault.TheVariants.{Nothing, CutShort, NoReply, TooLong, Trailing, Read}
use Rattle.dsn_smtp.specs.declared.reply_fault.ReplyFault.{ReplyFault}
use Rattle.dsn_smtp.specs.declared.reply_state.ReplyState.TheVariants.{Front, Second, Third, Mark, Text, LastText, LineFeed, LastLineFeed, FrontAgain, SecondAgain, ThirdAgain}
use Rattle.dsn_smtp.specs.declared.reply_state.ReplyState.{ReplyState}
use Rattle.dsn_smtp.specs.declared.reply_state.ReplyScan.TheVariants.{Whole, Behind, Wrong, Open}
use Rattle.dsn_smtp.specs.declared.reply_state.ReplyScan.{ReplyScan}
use Rattle.dsn_smtp.specs.declared.reply_state.ReplyStep.TheVariants.{Misplaced, Within, Ended}
use Rattle.dsn_smtp.specs.declared.reply_state.ReplyStep.{ReplyStep}
use Rattle.dsn_text.specs.Text.{is_between}

-- the step if a test holds, or else `Misplaced`
abbrev pub step_if : Bool → ReplyStep → ReplyStep
step_if true step = step
step_if false step = Misplaced

-- the step for a byte at a place
abbrev pub reply_state_after : ReplyState → ℕ → ReplyStep
reply_state_after Front byte = step_if (is_between 50 53 byte) (Within (Second byte))
reply_state_after (Second first) byte = step_if (is_between 48 53 byte) (Within (Third first byte))
reply_state_after (Third first second) byte =
    step_if (is_reply_code (first ∷ second ∷ byte ∷ [])) (Within (Mark (first ∷ second ∷ byte ∷ [])))
reply_state_after (Mark code) byte =
    if byte == 45 then Within (Text code)
    else (if byte == 32 then Within (LastText code) else step_if (byte == 13) (Within (LastLineFeed code)))
reply_state_after (Text code) byte =
    if byte == 13 then Within (LineFeed code) else (if byte == 10 then Misplaced else Within (Text code))
reply_state_after (LastText code) byte =
    if byte == 13 then Within (LastLineFeed code) else (if byte == 10 then Misplaced else Within (LastText code))
reply_state_after (LineFeed code) byte = step_if (byte == 10) (Within (FrontAgain code))
reply_state_after (LastLineFeed code) byte = step_if (byte == 10) (Ended code)
reply_state_after (FrontAgain code) byte = step_if (byte == slice_index code 0) (Within (SecondAgain code))
reply_state_after (SecondAgain code) byte = step_if (byte == slice_index code 1) (Within (ThirdAgain code))
reply_state_after (ThirdAgain code) byte = step_if (byte == slice_index code 2) (Within (Mark code))

-- whether there are no bytes
abbrev pub are_none : List ℕ → Bool
are_none [] = true
are_none (byte ∷ rest) = false

-- the result for bytes after a step, given the results from each place
abbrev pub scan_on : (ReplyState → ReplyScan) → Bool → ReplyStep → ReplyScan
scan_on from none (Within place) = from place
scan_on from true (Ended code) = Whole code
scan_on from false (Ended code) = Behind
scan_on from none Misplaced = Wrong

-- the result for bytes from a place
abbrev pub scan : ReplyState → List ℕ → ReplyScan
scan place [] = Open
scan place (byte ∷ rest) = scan_on (λ next. scan next rest) (are_none rest) (reply_state_after place byte)

-- no piece could be read after `size` bytes
abbrev pub StopsAtReplyPiece : ReplyFault → ℕ → Type 0
StopsAtReplyPiece Nothing size = size ≡ 0
StopsAtReplyPiece CutShort size = 0 < size
StopsAtReplyPiece NoReply size = ⊥
StopsAtReplyPiece TooLong size = ⊥
StopsAtReplyPiece Trailing size = ⊥
StopsAtReplyPiece Read size = Unit {0}

pub record ReadsNoReplyPiece (old new : Option (List ℕ)) (size : ℕ) (fault : ReplyFault) : Type 0 where
  pub consumed : Consumes old new []
  pub stops : StopsAtReplyPiece fault size
  pub ends : EndsBeforeReply fault new

-- a piece of `count` bytes was read, behind `size` bytes at the front of a buffer
pub record ReadsReplyPiece (old new : Option (List ℕ)) (size : ℕ) (bytes : List ℕ) (count : ℕ) : Type 0 where
  pub some : 0 < count
  pub fits : size + count ≤ length bytes
  pub consumed : Consumes old new (take count (drop size bytes))
