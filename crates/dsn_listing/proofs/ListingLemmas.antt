-- Listings: their lines, and their result.
use Rattle.std.proofs.Common.{◌≡◌, ℕ, ◌+◌, Bool, true, false, List, length, refl, ap}
use Rattle.std.specs.Prelude.{IfErr, Ok, Err, Result, Some, is_err}
use Rattle.std.specs.Result.{IsErrAnd}
use Rattle.dsn_book.specs.declared.open_line.OpenLine.{OpenLine}
use Rattle.dsn_device.specs.UntilFailure.{Lost, TakenAndFlushed, WrittenAndFlushed}
use Rattle.dsn_device.specs.declared.drain.Drain.{Ghosts as Drain}
use Rattle.dsn_ledger.specs.declared.opening.Opened.{Opened}
use Rattle.dsn_outcome.specs.History.{Limits}
use Rattle.dsn_text.specs.declared.key.Key.{Key}
use Rattle.dsn_listing.specs.declared.copied_disk.CopiedDisk.{CopiedDisk}
use Rattle.dsn_listing.specs.declared.listing_fault.ListingFault.{ListingFault}
use Rattle.dsn_listing.specs.declared.listing_fault.ListingFault.TheVariants.{NotWritten}
use Rattle.dsn_listing.specs.CopiedDisk.{copied_seen}
use Rattle.dsn_listing.specs.inner.CopiedFolder.{IsOpenedCopy}
use Rattle.dsn_journal.specs.SettledLetters.{first_edge}
use Rattle.dsn_ledger.specs.JournalFolder.{HaveEdges}
use Rattle.dsn_listing.specs.Listing.{AreClosedKeys, IsListed, IsListing, not_written, whole}
use Rattle.dsn_listing.specs.ListingLines.{last_lines, listing_lines}
use Rattle.dsn_notes.specs.OpenLogs.{AreOpenLines}

-- lines that were not all written and flushed, and lines that were
module _ {W : Type 0} (drain : Drain W) where
  pub lost-is : (a b : Bool) (old new : W) (text : List ℕ) → a ≡ false → b ≡ true → WrittenAndFlushed drain a b old new text → Lost drain old new text
  lost-is false true old new text good lost written = written
  lost-is false false old new text good lost written = absurd (let no : false ≡ true = lost in cc)
  lost-is true b old new text good lost written = absurd (let no : true ≡ false = good in cc)

  pub taken-is : (a b : Bool) (old new : W) (text : List ℕ) → a ≡ false → b ≡ false → WrittenAndFlushed drain a b old new text → TakenAndFlushed drain old new text
  taken-is false false old new text good all written = written
  taken-is false true old new text good all written = absurd (let no : true ≡ false = all in cc)
  taken-is true b old new text good all written = absurd (let no : true ≡ false = good in cc)

-- the lines of an opened copy of a journal are a listing of it
pub listing_is : (limits : Limits) (edges journal marks : List ℕ) (opened : Opened CopiedDisk) (logs logs_told : List OpenLine) (closed closed_told : List Key)
    → (is : IsOpenedCopy limits edges journal opened) → HaveEdges marks edges → AreOpenLines is.history (Some logs) → AreClosedKeys is.history closed → logs_told ≡ logs → closed_told ≡ closed
    → IsListing limits journal marks
    (listing_lines logs_told closed_told edges opened.letters.items (last_lines (first_edge edges) (opened.ledger.base + opened.ledger.book.book.sealed) opened.ledger.journal.used (length (copied_seen opened.ledger.journal.disk))))
listing_is limits edges journal marks opened logs logs_told closed closed_told is marked logs_are closed_are logs_is closed_is = record {
  edges = edges;
  marked = marked;
  base = opened.ledger.base;
  history = is.history;
  has = is.has;
  lines = record {
    logs = logs;
    logs_are = logs_are;
    closed = closed;
    closed_are = closed_are;
    is = λ i. listing_lines (logs_is i) (closed_is i) edges (is.letters_are i) (last_lines (first_edge edges) (opened.ledger.base + is.stands.sealed i) (is.used_is i) (is.size_is i));
  };
}

-- an error that is known to be this one
pub err-is : {T E : Type 0} (result : Result T E) (fault : E) → IsErrAnd result (λ e. e ≡ fault) → result ≡ Err fault
err-is (Ok value) fault is = absurd is
err-is (Err e) fault is = ap Err is

-- the result of writing the lines is the result of the listing
pub listed : {N : Type 0} (device : Drain N) (limits : Limits) (journal marks : List ℕ) (lines later : N) (text : List ℕ) (result : Result (Unit {0}) ListingFault)
    → IfErr result (λ fault. fault ≡ NotWritten) → IsListing limits journal marks text → WrittenAndFlushed device false (is_err result) lines later text
    → IsListed device limits journal marks lines later result
listed device limits journal marks lines later text (Ok done) is listing written = whole text refl listing written
listed device limits journal marks lines later text (Err fault) is listing written = not_written text (ap Err is) listing written
