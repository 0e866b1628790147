-- Opened copies of a journal.
use Rattle.std.specs.Prelude.{ℕ, List, ◌≡◌, length}
use Rattle.dsn_book.specs.Book.{Represents}
use Rattle.dsn_ledger.specs.Header.{with_header}
use Rattle.dsn_ledger.specs.Posting.{to_post}
use Rattle.dsn_journal.specs.Records.{encoded, recovered}
use Rattle.dsn_journal.specs.SettledLetters.{first_edge}
use Rattle.dsn_ledger.specs.declared.opening.Opened.{Opened}
use Rattle.dsn_outcome.specs.History.{Limits, Exchange, sealed_letters}
use Rattle.dsn_listing.specs.declared.copied_disk.CopiedDisk.{CopiedDisk}
use Rattle.dsn_ledger.specs.JournalFolder.{HasHistory}
use Rattle.dsn_listing.specs.CopiedDisk.{copied_seen}

-- an opened copy of a journal: it has the journal's base, a book that models its history, and the letters that the mark
-- doesn't count. The lengths of its records and of its file are those of the journal, with the header of a new one
pub record IsOpenedCopy (limits : Limits) (edges journal : List ℕ)
    (opened : Opened CopiedDisk) : Type 0 where
  pub history : List Exchange
  pub has : HasHistory limits edges journal opened.ledger.base history
  pub stands : Represents opened.ledger.book.book history
  pub letters_are : opened.letters.items
      ≡ to_post opened.ledger.base (first_edge edges) (sealed_letters history)
  pub used_is : opened.ledger.journal.used
      ≡ length (encoded (with_header limits (recovered journal)))
  pub size_is : length (copied_seen opened.ledger.journal.disk) ≡ length journal
