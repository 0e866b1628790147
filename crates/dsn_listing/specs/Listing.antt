-- Listings: the lines that describe a journal's folder, and the result of a listing.
use Rattle.std.specs.Prelude.{◌≡◌, ℕ, ◌+◌, List, Result, Ok, Err, Some, filter, length, IsPermutation}
use Rattle.std.specs.List.Sorted.{IsSorted}
use Rattle.dsn_book.specs.declared.open_line.OpenLine.{OpenLine}
use Rattle.dsn_device.specs.UntilFailure.{Lost, TakenAndFlushed}
use Rattle.dsn_device.specs.declared.drain.Drain.{Ghosts as Drain}
use Rattle.dsn_ledger.specs.Header.{with_header}
use Rattle.dsn_ledger.specs.Posting.{to_post}
use Rattle.dsn_journal.specs.Records.{encoded, recovered}
use Rattle.dsn_ledger.specs.declared.ledger_error.LedgerError.{LedgerError}
use Rattle.dsn_journal.specs.SettledLetters.{first_edge}
use Rattle.dsn_journal.specs.declared.marks_error.MarksError.{MarksError}
use Rattle.dsn_outcome.specs.History.{Limits, Exchange, held_keys, is_closed, sealed_letters}
use Rattle.dsn_outcome.specs.Letter.{Letter}
use Rattle.dsn_text.specs.Key.{key_cmp}
use Rattle.dsn_text.specs.declared.key.Key.{Key}
use Rattle.dsn_ledger.specs.JournalFolder.{AreMarksRefusedFor, HasHistory, HaveEdges, IsJournalRefusedFor}
use Rattle.dsn_listing.specs.ListingLines.{last_lines, listing_lines}
use Rattle.dsn_notes.specs.OpenLogs.{AreOpenLines}
use Rattle.dsn_listing.specs.declared.listing_fault.ListingFault.{ListingFault}
use Rattle.dsn_listing.specs.declared.listing_fault.ListingFault.TheVariants as fault

-- the closed keys after a history, in the order of their first use
abbrev pub closed_held : List Exchange → List Key
closed_held history = filter (λ key. is_closed key history) (held_keys history)

-- the closed keys after a history, in key order
abbrev pub AreClosedKeys : List Exchange → List Key → Type 0
AreClosedKeys history keys = IsPermutation (closed_held history) keys × IsSorted key_cmp keys

-- the lines of a history's open logs and of its closed keys, each in key order, then those of these letters that aren't
-- settled, and these last lines
pub record AreLinesOf (history : List Exchange) (edges : List ℕ) (letters : List Letter) (last text : List ℕ) : Type 0 where
  pub logs : List OpenLine
  pub logs_are : AreOpenLines history (Some logs)
  pub closed : List Key
  pub closed_are : AreClosedKeys history closed
  pub is : text ≡ listing_lines logs closed edges letters last

-- the listing of the bytes of a journal and its marks. It has the lines of the journal's history, with those of the
-- letters that aren't settled. Then come the mark, and how many letters were sealed, with those of the base.
-- Last are the bytes of the records, with the header that a new journal gets, and the bytes of the file
pub record IsListing (limits : Limits) (journal marks text : List ℕ) : Type 0 where
  pub edges : List ℕ
  pub marked : HaveEdges marks edges
  pub base : ℕ
  pub history : List Exchange
  pub has : HasHistory limits edges journal base history
  pub lines : AreLinesOf history edges (to_post base (first_edge edges) (sealed_letters history))
      (last_lines (first_edge edges) (base + length (sealed_letters history))
      (length (encoded (with_header limits (recovered journal)))) (length journal))
      text

-- files that can be listed
pub record MayBeListed (limits : Limits) (journal marks : List ℕ) : Type 0 where
  pub edges : List ℕ
  pub marked : HaveEdges marks edges
  pub base : ℕ
  pub history : List Exchange
  pub has : HasHistory limits edges journal base history

-- the result of a listing of the bytes of a journal and its marks. On success all lines were written and then flushed.
-- Otherwise it is the first of these faults, in this order: the marks are not opened; the marks have a mark, and the
-- journal is not opened under it; there is no memory for the lists; a line is lost. At the first three nothing is
-- written
pub data IsListed {N : Type 0} (device : Drain N) (limits : Limits) (journal marks : List ℕ)
    (lines later : N) (result : Result (Unit {0}) ListingFault) : Type 0 where
  whole : (text : List ℕ) → result ≡ Ok tt → IsListing limits journal marks text
      → TakenAndFlushed device lines later text
      → IsListed device limits journal marks lines later result
  no_marks : (cause : MarksError) → result ≡ Err (fault.Marks cause) → later ≡ lines
      → AreMarksRefusedFor marks cause
      → IsListed device limits journal marks lines later result
  no_journal : (cause : LedgerError) (edges : List ℕ) → result ≡ Err (fault.Journal cause)
      → later ≡ lines → HaveEdges marks edges → IsJournalRefusedFor limits edges journal cause
      → IsListed device limits journal marks lines later result
  no_memory : result ≡ Err fault.NoMemory → later ≡ lines → MayBeListed limits journal marks
      → IsListed device limits journal marks lines later result
  not_written : (text : List ℕ) → result ≡ Err fault.NotWritten
      → IsListing limits journal marks text → Lost device lines later text
      → IsListed device limits journal marks lines later result
