-- The effect of a text on a writer of lines: the text is written or buffered. Nothing is written
-- after the drain's first failure.
use Rattle.std.specs.Prelude.{◌≡◌, ℕ, Bool, true, false, not, ◌&&◌, ◌==◌, if◌then◌else◌, List, [], ◌∷◌, ◌++◌, drop, map, IsFalse}
use Rattle.std.specs.List.{list_any}
use Rattle.dsn_device.specs.QuietWriter.{QuietWriter, Writes}
use Rattle.dsn_device.specs.declared.drain.Drain
use Rattle.dsn_report.specs.Lines.{text_of_lines, begins_with_dot, dot_stuffed}
use Rattle.dsn_report.specs.declared.line_writer.LineWriter.{LineWriter}

-- the writer has taken this text since the given start: a front of it is written, and the rest is
-- buffered
pub record HasTakenText {W : Type 0} (device : Drain.Ghosts W) (start : QuietWriter W) (lines : LineWriter W)
    (text : List ℕ) : Type 0 where
  pub front : List ℕ
  pub split : text ≡ front ++ lines.pending
  pub written : Writes device start lines.writer front

-- the writer took the text, after all that it took before
pub record Took {W : Type 0} (device : Drain.Ghosts W) (old new : LineWriter W)
    (text : List ℕ) : Type 0 where
  pub text_taken : (start : QuietWriter W) (before : List ℕ) → HasTakenText device start old before
      → HasTakenText device start new (before ++ text)
  pub dots_kept : new.dots ≡ old.dots

-- the writer wrote its buffer
pub record Settled {W : Type 0} (device : Drain.Ghosts W) (old new : LineWriter W) : Type 0 where
  pub pending_written : Writes device old.writer new.writer old.pending
  pub none_pending : new.pending ≡ []
  pub dots_kept : new.dots ≡ old.dots

-- lines as they are sent, with or without added dots
abbrev pub lines_sent : Bool → List (List ℕ) → List (List ℕ)
lines_sent true lines = map dot_stuffed lines
lines_sent false lines = lines

-- the writer took the lines
pub record Wrote {W : Type 0} (device : Drain.Ghosts W) (old new : LineWriter W)
    (lines : List (List ℕ)) : Type 0 where
  pub took : Took device old new (text_of_lines (lines_sent old.dots lines))

-- the text to be sent for a line that is passed with its CRLF after a dot; it includes the dot if
-- the line begins with a dot and dots are added (RFC 5321 section 4.5.2)
abbrev pub sent_of_dotted : Bool → List ℕ → List ℕ
sent_of_dotted dots dotted =
    if dots && begins_with_dot (drop 1 dotted) then dotted else drop 1 dotted

-- a text is not empty and doesn't begin with a dot; so no line that begins with the text begins
-- with a dot
abbrev pub begins_plainly : List ℕ → Bool
begins_plainly [] = false
begins_plainly (byte ∷ rest) = not (byte == 46)

-- a text is that of these lines, and none of them begins with a dot
pub record IsBlock (lines : List (List ℕ)) (text : List ℕ) : Type 0 where
  pub text_is : text ≡ text_of_lines lines
  pub no_dot : IsFalse (list_any begins_with_dot lines)
