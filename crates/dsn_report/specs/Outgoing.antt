-- Letters that are written to the outbox: how much of them is written, and which could not be
-- written.
use Rattle.std.specs.Prelude.{◌≡◌, ℕ, Bool, true, false, not, List, [], ◌∷◌, ◌++◌, length, take, Option, None, if◌then◌else◌}
use Rattle.std.specs.Io.KnownBytes.{Appends}
use Rattle.std.specs.List.{flat_map}
use Rattle.dsn_device.specs.Failures.{counted}
use Rattle.dsn_device.specs.Flushes.{flushed, flushed_times}
use Rattle.dsn_device.specs.Marking.{SayCount, marked_by}
use Rattle.dsn_device.specs.Throughout.{LeavesThroughout}
use Rattle.dsn_device.specs.Transfer.{AppendsPart}
use Rattle.dsn_device.specs.UntilFailure.{LeavesMarked}
use Rattle.dsn_device.specs.declared.drain.Drain
use Rattle.dsn_outcome.specs.Letter.{Letter}
use Rattle.dsn_report.specs.Outbox.{greeting, mail_transaction, outbox_of}
use Rattle.dsn_report.specs.Poster.{Poster}
use Rattle.dsn_report.specs.Site.{Site}

-- a poster, and the letters that it could not write
pub record Outgoing (W : Type 0) : Type 0 where
  pub poster : Poster W
  pub unsent : List Letter

-- nothing is posted yet, and nothing is written
abbrev pub begun : {W : Type 0} → Site → W → Outgoing W
begun site outbox = record {
  poster = record { site = site; outbox = outbox; greeted = false; failed = false };
  unsent = [];
}

-- the text that posting these letters writes: the greeting is written before the first of them
abbrev pub written_of : Site → Bool → List Letter → List ℕ
written_of site greeted letters =
    (if greeted then greeting site else []) ++ flat_map (mail_transaction site) letters

-- known bytes grow by a front of the text that contains at least this much of it
pub record AppendsAtLeast (old new : Option (List ℕ)) (least text : List ℕ) : Type 0 where
  pub more : List ℕ
  pub unsent : List ℕ
  pub split : text ≡ (least ++ more) ++ unsent
  pub appended : Appends old new (least ++ more)

-- the count of marked letters after these were marked, one after another
abbrev pub marked_with : List Letter → Option ℕ → Option ℕ
marked_with [] count = count
marked_with (first ∷ rest) count = marked_with rest (marked_by true first.serial count)

-- bytes of marks whose count is that after some first part of these letters was marked, which may
-- be empty
pub record SayCountOfFirst (say : List ℕ → ℕ → Type 0) (count : Option ℕ) (letters : List Letter)
    (left : List ℕ) : Type 0 where
  pub first : List Letter
  pub rest : List Letter
  pub split : letters ≡ first ++ rest
  pub counted_are : SayCount say (marked_with first count) left

-- a crash at any moment until the end leaves marks that count some first part of these letters as
-- well, and no others; this requires that a crash at the start leaves marks that count the device's
-- letters
abbrev pub MarksFirstOf : {W : Type 0} → Drain.Ghosts W → W → W → List Letter → Type 0
MarksFirstOf drain start end letters =
    LeavesMarked drain start
    → LeavesThroughout drain.moment drain.left_since start end
    (SayCountOfFirst drain.say (drain.marked start) letters)

-- the same, and a crash at the end leaves marks that count all of these letters
abbrev pub MarksAllOf : {W : Type 0} → Drain.Ghosts W → W → W → List Letter → Type 0
MarksAllOf drain start end letters =
    MarksFirstOf drain start end letters × (LeavesMarked drain start → LeavesMarked drain end)

-- how an outbox failed after these letters were posted, each flushed once: within this text,
-- without another flush; at the flush after all of it; or at the mark after that flush; a device
-- that flushes surely fails only within the text, and one that marks no letters doesn't fail at a
-- mark; a crash leaves marks of posted letters only, and at the end of all of them; if the mark
-- failed, a crash may leave marks that count its letter too, all of whose text is there
pub data FailedIn {W : Type 0} (drain : Drain.Ghosts W) (start end : W)
    (posted with_next : List Letter) (text : List ℕ) : Type 0 where
  in_text : AppendsPart (drain.contents start) (drain.contents end) text
      → drain.flushes end ≡ flushed_times (length posted) (drain.flushes start)
      → MarksAllOf drain start end posted
      → FailedIn drain start end posted with_next text
  at_flush : Appends (drain.contents start) (drain.contents end) text
      → drain.flushes end ≡ flushed (flushed_times (length posted) (drain.flushes start))
      → ¬ drain.flushes_surely start → MarksAllOf drain start end posted
      → FailedIn drain start end posted with_next text
  at_mark : Appends (drain.contents start) (drain.contents end) text
      → drain.flushes end ≡ flushed (flushed_times (length posted) (drain.flushes start))
      → drain.unflushed end ≡ false → ¬ (drain.marked start ≡ None) → ¬ drain.flushes_surely start
      → MarksFirstOf drain start end with_next
      → FailedIn drain start end posted with_next text

-- whether there are letters
abbrev pub are_some : List Letter → Bool
are_some [] = false
are_some (first ∷ rest) = true

-- the longest possible text of an outbox: with QUIT, or with the first letter that was not written
abbrev pub text_until : Site → List Letter → List Letter → List ℕ
text_until site posted [] = outbox_of site posted
text_until site posted (first ∷ rest) = written_of site true (posted ++ first ∷ [])

-- if nothing failed, each letter is written, flushed and marked, and nothing is written after the
-- last flush
pub record AllWritten {W : Type 0} (drain : Drain.Ghosts W) (start : W) (out : Outgoing W)
    (letters : List Letter) : Type 0 where
  pub none_unsent : out.unsent ≡ []
  pub written : Appends (drain.contents start) (drain.contents out.poster.outbox)
      (written_of out.poster.site out.poster.greeted letters)
  pub greeted_is : out.poster.greeted ≡ are_some letters
  pub good : drain.failures out.poster.outbox ≡ drain.failures start
  pub flushes : drain.flushes out.poster.outbox
      ≡ flushed_times (length letters) (drain.flushes start)
  pub marked : drain.marked out.poster.outbox ≡ marked_with letters (drain.marked start)
  pub passed_on : are_some letters ≡ true → drain.unflushed out.poster.outbox ≡ false
  pub marks : MarksAllOf drain start out.poster.outbox letters
  pub surely : drain.flushes_surely start → drain.flushes_surely out.poster.outbox

-- after a failure, the letters before the failed one are written, each flushed and marked, and a
-- front of the failed one is written; the failed letter and the later ones are kept
pub record FrontWritten {W : Type 0} (drain : Drain.Ghosts W) (start : W) (out : Outgoing W)
    (letters : List Letter) : Type 0 where
  pub posted : List Letter
  pub failed : Letter
  pub later : List Letter
  pub unsent_is : out.unsent ≡ failed ∷ later
  pub split : letters ≡ posted ++ (failed ∷ later)
  pub written : AppendsAtLeast (drain.contents start) (drain.contents out.poster.outbox)
      (written_of out.poster.site (are_some posted) posted)
      (written_of out.poster.site true (posted ++ failed ∷ []))
  pub lost : FailedIn drain start out.poster.outbox posted (posted ++ failed ∷ [])
      (written_of out.poster.site true (posted ++ failed ∷ []))
  pub marked : drain.marked out.poster.outbox ≡ marked_with posted (drain.marked start)
  pub count : drain.failures out.poster.outbox ≡ counted true (drain.failures start)

-- a device whose calls don't fail stays such a device, and its count of failures doesn't change
abbrev pub StaysSteady : {W : Type 0} → Drain.Ghosts W → W → W → Type 0
StaysSteady drain old new =
    drain.steady old → drain.steady new × (drain.failures new ≡ drain.failures old)

-- these letters were posted, one after another
pub record Delivered {W : Type 0} (drain : Drain.Ghosts W) (site : Site) (start : W) (out : Outgoing W)
    (letters : List Letter) : Type 0 where
  pub site_kept : out.poster.site ≡ site
  pub while_good : out.poster.failed ≡ false → AllWritten drain start out letters
  pub after_fault : out.poster.failed ≡ true → FrontWritten drain start out letters
  pub steady : StaysSteady drain start out.poster.outbox

-- how an outbox ended: whole, with the whole text of all letters; or after one failure, with the
-- transactions of the posted letters, which are those before the unsent ones, and a front of what
-- follows; a whole one was flushed once for each letter and once after QUIT; another one was
-- flushed once for each posted letter, and once more if it failed at a flush or at a mark; exactly
-- the posted letters are marked; a crash at any moment leaves marks of posted letters only, except
-- of a letter whose mark failed; if the device flushes surely, one that isn't whole lacks some of
-- the text of all letters
pub record IsOutbox {W : Type 0} (drain : Drain.Ghosts W) (site : Site) (start end : W) (whole : Bool)
    (unsent letters : List Letter) : Type 0 where
  pub posted : List Letter
  pub split : letters ≡ posted ++ unsent
  pub written : AppendsAtLeast (drain.contents start) (drain.contents end)
      (written_of site (are_some posted) posted) (text_until site posted unsent)
  pub all_written : whole ≡ true
      → Appends (drain.contents start) (drain.contents end) (outbox_of site letters)
  pub none_unsent : whole ≡ true → unsent ≡ []
  pub count : drain.failures end ≡ counted (not whole) (drain.failures start)
  pub flushes : whole ≡ true
      → drain.flushes end ≡ flushed (flushed_times (length letters) (drain.flushes start))
  pub passed_on : whole ≡ true → drain.unflushed end ≡ false
  pub marked : drain.marked end ≡ marked_with posted (drain.marked start)
  pub marks : whole ≡ true → MarksAllOf drain start end letters
  pub lost : whole ≡ false
      → FailedIn drain start end posted (posted ++ take 1 unsent) (text_until site posted unsent)
  pub short : whole ≡ false → drain.flushes_surely start
      → AppendsPart (drain.contents start) (drain.contents end) (outbox_of site letters)
  pub steady : StaysSteady drain start end
