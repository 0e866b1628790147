-- Settled letters in a journal of marks: what becomes of the marks when one more is to be kept, and what a crash leaves.
use Rattle.std.specs.Prelude.{◌≡◌, ◌≢◌, ℕ, Bool, true, false, not}
use Rattle.dsn_device.specs.Failures.{counted}
use Rattle.dsn_journal.specs.Marks.{LeavesTheEdges, Marks}
use Rattle.dsn_journal.specs.Moments.{LeavesOnly}
use Rattle.dsn_journal.specs.SettledLetters.{is_settled}
use Rattle.dsn_journal.specs.Settling.{KeepsAlso, SaysEdgesOrAlso, keeps_others}
use Rattle.dsn_journal.specs.declared.disk.Disk
use Rattle.dsn_submission.specs.declared.deeds.Marks.{Ghosts as MarkPlace}

-- whether the letter with this serial is settled in these marks
abbrev pub has_settled_in : {D : Type 0} → Marks D → ℕ → Bool
has_settled_in marks serial = is_settled marks.edges serial

-- Marks were to have the letter with this serial as settled, and that succeeded or failed. If it succeeded, a crash
-- leaves those that they have. If a crash left those that they had before, a crash at any moment leaves them, with or
-- without this one, whether or not it succeeded. If it failed, nothing changed, or the disk failed, which counts one
-- failure and leaves the marks unsettled. It failed if they weren't settled.
pub record KeepsSettled {D : Type 0} (disk : Disk.Ghosts D) (old : Marks D) (serial : ℕ) (ok : Bool) (new : Marks D) : Type 0 where
  pub keeps : KeepsAlso old.edges serial ok new.edges
  pub durable : ok ≡ true → LeavesTheEdges disk new
  pub any_moment : LeavesTheEdges disk old → LeavesOnly disk old.journal.disk new.journal.disk (SaysEdgesOrAlso serial old.edges)
  pub unchanged : ok ≡ false → new.settled ≡ old.settled → new ≡ old
  pub unsettled : old.settled ≡ false → (ok ≡ false) × (new ≡ old)
  pub count : old.settled ≡ true → disk.failures new.journal.disk ≡ counted (not new.settled) (disk.failures old.journal.disk)

-- other letters stay as they are
pub keeps_others_settled : {D : Type 0} (disk : Disk.Ghosts D) (old : Marks D) (serial : ℕ) (ok : Bool) (new : Marks D) (other : ℕ)
    → KeepsSettled disk old serial ok new → other ≢ serial → has_settled_in new other ≡ has_settled_in old other
keeps_others_settled disk old serial ok new other keeps ne = keeps_others old.edges serial ok new.edges other keeps.keeps ne

-- these marks, as the place where it is kept which letters are settled
abbrev pub journal_marks : {D : Type 0} → Disk.Ghosts D → MarkPlace (Marks D)
journal_marks disk = record {
  settles = KeepsSettled disk;
  has_settled = has_settled_in;
  keeps_others = keeps_others_settled disk;
}
