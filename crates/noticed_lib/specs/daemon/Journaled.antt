-- Runs over a journal: what a run begins with, and its result.
use Rattle.dsn_book.specs.Release.{history_under}
use Rattle.std.specs.Prelude.{◌≡◌, ◌≢◌, ◌⊎◌, ◌↔◌, ℕ, ◌+◌, ◌^◌, ◌<◌, ◌≤◌, true, false, List, [], IsErrOf, IsPermutation, OnErr, OnOk, Result, length, replicate, Some}
use Rattle.dsn_book.specs.Book.{ReleasingBook, Represents}
use Rattle.dsn_book.specs.Keeper.{MayCrash}
use Rattle.dsn_book.specs.Release.{Rules}
use Rattle.dsn_device.specs.Failures.{counted}
use Rattle.dsn_outcome.specs.History.{Limits, Exchange, sealed_letters}
use Rattle.dsn_outcome.specs.Letter.{Letter}
use Rattle.dsn_crew.specs.Crew.{Account, CrewFault, HasAccount, HasFault, MayCrashWithin, most_ports}
use Rattle.dsn_crew.specs.declared.crew_cause.CrewCause.{CrewCause}
use Rattle.dsn_crew.specs.declared.crew_cause.CrewCause.TheVariants.{PortCount, Refused}
use Rattle.dsn_crew.specs.declared.agents.port.Port.{Ghosts as Port}
use Rattle.dsn_crew.specs.KeeperHistory.{BeginsWith}
use Rattle.dsn_crew.specs.declared.post.outlet.Outlet.{Ghosts as Outlet}
use Rattle.dsn_crew.specs.post.Outlet.{outbox_outlet}
use Rattle.dsn_device.specs.declared.drain.Drain.{Ghosts as Drain}
use Rattle.dsn_ledger.specs.Compacted.{compacted, raised}
use Rattle.dsn_ledger.specs.EarlierRuns.{of_earlier_run}
use Rattle.dsn_ledger.specs.Forgetting.{lets_go, open_entries}
use Rattle.dsn_ledger.specs.Header.{AreReplayedUnder, SayHistory, StandsForFile, base_limit, with_header}
use Rattle.dsn_ledger.specs.InPlace.{AreRecordsInPlaceOf}
use Rattle.dsn_ledger.specs.KeepError.{has_keeping_failed, keep_error_code}
use Rattle.dsn_ledger.specs.KeptBook.{HasKept, keeper_of_ledger, ledger_keeper}
use Rattle.dsn_ledger.specs.Ledger.{records_of}
use Rattle.dsn_ledger.specs.LedgerError.{ledger_error_code}
use Rattle.dsn_journal.specs.MarkedOutbox.{MarkedOutbox}
use Rattle.dsn_journal.specs.Marks.{IsLeftByOpeningMarks, LeavesTheEdges, Marks, SayEdges, SayMark}
use Rattle.dsn_journal.specs.MarksError.{is_of_disk, marks_error_code}
use Rattle.dsn_journal.specs.Moments.{LeavesOnly}
use Rattle.dsn_journal.specs.SettledLetters.{first_edge}
use Rattle.dsn_ledger.specs.OpenLedger.{Ledger, rules_of}
use Rattle.dsn_ledger.specs.Opening.{IsLeftByOpening}
use Rattle.dsn_ledger.specs.Posting.{AreToPost}
use Rattle.dsn_ledger.specs.Staying.{FillAQuarter}
use Rattle.dsn_journal.specs.Records.{encoded, recovered}
use Rattle.dsn_journal.specs.declared.disk.Disk
use Rattle.dsn_journal.specs.declared.journal_error.JournalError.TheVariants.{Failed, Full}
use Rattle.dsn_ledger.specs.declared.keep_error.KeepError.{KeepError}
use Rattle.dsn_ledger.specs.declared.keep_error.KeepError.TheVariants as not_kept_for
use Rattle.dsn_ledger.specs.declared.keep_error.KeepError.TheVariants.{Unsettled}
use Rattle.dsn_ledger.specs.declared.ledger_error.LedgerError.{LedgerError}
use Rattle.dsn_journal.specs.declared.marks_error.MarksError.{MarksError}
use Rattle.dsn_journal.specs.declared.marks_error.MarksError.TheVariants as no_marks_for
use Rattle.dsn_text.specs.FaultCode.{journal_full_code, outbox_write_code}
use Rattle.dsn_report.specs.Outgoing.{Delivered, Outgoing}
use Rattle.dsn_report.specs.Site.{Site}
use Rattle.noticed_lib.specs.daemon.SocketUses.{socket_port}
use Rattle.noticed_lib.specs.daemon.Serve.{WritesAccount, WritesFault, WritesNumber}
use Rattle.dsn_ledger.specs.JournalFolder.{AreMarksRefusedFor, HasHistory, HaveEdges, IsNotOpenedToRaise, IsOnlyRead}
use Rattle.noticed_lib.specs.declared.daemon.serve_end.ServeEnd.{ServeEnd}

-- a history of earlier runs that a start over this file begins with: that of the records, under the
-- limits under which the start replays them
pub record StartsWith (limits : Limits) (file : List ℕ) (long : List Exchange) : Type 0 where
  pub own : Limits
  pub replayed : AreReplayedUnder limits (recovered file) own
  pub in_place : AreRecordsInPlaceOf own (with_header own (recovered file)) long

-- what contracts see of an outbox that marks its letters, as a device
abbrev pub marking_drain : {W M : Type 0} → Drain W → Disk.Ghosts M → Drain (MarkedOutbox W M)
marking_drain drain marks_disk = record {
  contents = λ marked. drain.contents marked.outbox;
  left = λ marked. drain.left marked.outbox;
  failures = λ marked. marked.failures;
  flushes = λ marked. drain.flushes marked.outbox;
  unflushed = λ marked. drain.unflushed marked.outbox;
  marked = λ marked. Some marked.marks.mark;
  moment = λ marked. marks_disk.moment marked.marks.journal.disk;
  left_since = λ marked. marks_disk.left_since marked.marks.journal.disk;
  say = λ left count. SayMark (recovered left) count;
  steady = λ marked. ⊥;
  flushes_surely = λ marked. ⊥;
}

-- at each moment from one disk of marks to another a crash leaves what it might have left of the
-- first, or the same records. If there are no marks, it may leave a file in which marks may be
-- begun
abbrev pub LeavesMarksOpened : {M : Type 0} → Disk.Ghosts M → M → M → Type 0
LeavesMarksOpened marks_disk marks last =
    LeavesOnly marks_disk marks last
    (λ left. marks_disk.may_leave marks left ⊎ IsLeftByOpeningMarks (marks_disk.seen marks) left)

-- the opened marks of a folder, and the letters that its ledger was opened with: all letters of the
-- journal's records from the mark on, and no other. The marks are those of this journal: the letters
-- of its base are settled, and none that wasn't sealed. A crash leaves these marks
pub record IsFolderOpened {D M : Type 0} (disk : Disk.Ghosts D) (marks_disk : Disk.Ghosts M)
    (limits : Limits) (journal : D) (marks : M) (opened : Marks M) (letters : List Letter)
    : Type 0 where
  pub edges_are : SayEdges (recovered (marks_disk.seen marks)) opened.edges
  pub mark_is : opened.mark ≡ first_edge opened.edges
  pub going : opened.settled ≡ true
  pub leaves : LeavesTheEdges marks_disk opened
  pub crash : LeavesMarksOpened marks_disk marks opened.journal.disk
  pub own : Limits
  pub replayed : AreReplayedUnder limits (recovered (disk.seen journal)) own
  pub base : ℕ
  pub history : List Exchange
  pub of_journal_is : HasHistory own opened.edges (disk.seen journal) base history
  pub letters_are : AreToPost own opened.mark
      (with_header own (recovered (disk.seen journal))) letters

-- why a folder was not opened for a run, by the number of the fault: its marks or its ledger were
-- not opened, for this cause. Both disks are returned. What was not opened is as it was, whatever
-- it is, and a crash leaves it so. If its disk failed, a crash leaves it as it was, or a file with
-- the same records, or a file that is still new
pub data IsNotOpened {D M : Type 0} (disk : Disk.Ghosts D) (marks_disk : Disk.Ghosts M)
    (limits : Limits) (journal last : D) (marks last_marks : M) (code : ℕ) : Type 0 where
  no_marks : (cause : MarksError) → code ≡ marks_error_code cause
      → AreMarksRefusedFor (marks_disk.seen marks) cause → last ≡ journal
      → (cause ≡ no_marks_for.Journal Failed) ⊎ IsOnlyRead marks_disk marks last_marks
      → LeavesMarksOpened marks_disk marks last_marks
      → marks_disk.failures last_marks ≡ counted (is_of_disk cause) (marks_disk.failures marks)
      → IsNotOpened disk marks_disk limits journal last marks last_marks code
  no_ledger : (cause : LedgerError) (edges : List ℕ) → code ≡ ledger_error_code cause
      → HaveEdges (marks_disk.seen marks) edges
      → IsNotOpenedToRaise disk limits edges journal last cause
      → LeavesMarksOpened marks_disk marks last_marks
      → IsNotOpened disk marks_disk limits journal last marks last_marks code

-- a file by whose records 2^63 letters or more were sealed in all
pub record SealTooMany (limits : Limits) (file : List ℕ) : Type 0 where
  pub own : Limits
  pub replayed : AreReplayedUnder limits (recovered file) own
  pub base : ℕ
  pub history : List Exchange
  pub said : SayHistory own base (with_header own (recovered file)) history
  pub many : base_limit ≤ base + length (sealed_letters history)

-- a file made under other limits than the run's, that has no room for the shorter records, under the
-- run's limits and with the letters that wait, that would take the place of its own
pub record HasNoRoomForShorter (limits : Limits) (file : List ℕ) (waiting : List Letter)
    : Type 0 where
  pub book : ReleasingBook
  pub base : ℕ
  pub replayed : AreReplayedUnder limits (recovered file) book.book.limits
  pub other : book.book.limits ≢ limits
  pub stands : StandsForFile book base (with_header book.book.limits (recovered file))
  pub longer : length file < length (encoded (compacted (raised limits book) base waiting))

-- what a crash leaves at each moment from one disk of a journal to another. It is what it might
-- have left of the first, or a file that a later start begins with each history that the first one
-- begins with
abbrev pub LeavesStart : {D : Type 0} → Disk.Ghosts D → Limits → D → D → Type 0
LeavesStart disk limits journal last =
    (long : List Exchange) → StartsWith limits (disk.seen journal) long
    → LeavesOnly disk journal last (λ left. disk.may_leave journal left ⊎ StartsWith limits left long)

-- a journal's file that a start under these limits leaves as it is: it is replayed under them, and
-- its records take up at most a quarter of it
pub record StaysAtStart (limits : Limits) (file : List ℕ) : Type 0 where
  pub under : AreReplayedUnder limits (recovered file) limits
  pub short : FillAQuarter (length (encoded (with_header limits (recovered file)))) (length file)

-- from one disk of a journal to another its records stay, except that a file without one gets its
-- header. A crash leaves at each moment what it might have left of the first, or the same records
pub record IsOnlyOpened {D : Type 0} (disk : Disk.Ghosts D) (limits : Limits) (journal last : D)
    : Type 0 where
  pub records : recovered (disk.seen last) ≡ with_header limits (recovered (disk.seen journal))
  pub any_moment : LeavesOnly disk journal last
      (λ left. disk.may_leave journal left ⊎ IsLeftByOpening limits (disk.seen journal) left)

-- the ledger that a run over this journal begins with. The run may begin with each history that the
-- journal's records are in place of. A journal that stays as it is was not replaced. At each moment
-- until then a crash leaves what it might have left before, or a file that a later start begins with
-- the same history
pub record IsLedgerBegun {D : Type 0} (disk : Disk.Ghosts D) (limits : Limits) (journal : D)
    (ledger : Ledger D) : Type 0 where
  pub limits_are : ledger.book.book.limits ≡ limits
  pub few : ledger.base + ledger.book.book.sealed < 2 ^ 63
  pub begins : (before : List Exchange) × BeginsWith (ledger_keeper disk) ledger before
  pub begins_with : (long : List Exchange) → StartsWith limits (disk.seen journal) long
      → BeginsWith (ledger_keeper disk) ledger (of_earlier_run long)
  pub stays : StaysAtStart limits (disk.seen journal)
      → IsOnlyOpened disk limits journal ledger.journal.disk
  pub crash : LeavesStart disk limits journal ledger.journal.disk

-- why the ledger of this file was not begun while these letters wait, by the number of the fault: the
-- journal could not be replaced, or 2^63 letters were sealed
pub data IsNotBegun (limits : Limits) (file : List ℕ) (waiting : List Letter) (code : ℕ)
    : Type 0 where
  not_replaced : (cause : KeepError) → code ≡ keep_error_code cause → cause ≢ Unsettled
      → (cause ≡ not_kept_for.Journal Full → HasNoRoomForShorter limits file waiting)
      → IsNotBegun limits file waiting code
  too_many_letters : code ≡ journal_full_code → SealTooMany limits file
      → IsNotBegun limits file waiting code

-- a poster that was given the letters of a folder that was opened, and no other, over this outbox
pub record IsPostedFirst {D M W : Type 0} (disk : Disk.Ghosts D) (marks_disk : Disk.Ghosts M)
    (drain : Drain W) (site : Site) (limits : Limits) (journal : D) (marks : M) (outbox : W)
    (poster : Outgoing (MarkedOutbox W M)) : Type 0 where
  pub start : MarkedOutbox W M
  pub first : List Letter
  pub opened : IsFolderOpened disk marks_disk limits journal marks start.marks first
  pub posted : Delivered (marking_drain drain marks_disk) site start poster first
  pub outbox_is : start.outbox ≡ outbox

-- why a run over an outbox did not begin, by the number of its fault, the outbox that is returned,
-- and both disks. Its folder was not opened, and the outbox is as it was. Or the outbox failed
-- while the first letters were posted. Or it did not fail, and the ledger was not begun
pub data IsNoStart {D M W : Type 0} (disk : Disk.Ghosts D) (marks_disk : Disk.Ghosts M)
    (drain : Drain W) (site : Site) (limits : Limits) (journal last : D) (marks last_marks : M)
    (outbox back : W) (code : ℕ) : Type 0 where
  not_opened : back ≡ outbox
      → IsNotOpened disk marks_disk limits journal last marks last_marks code
      → IsNoStart disk marks_disk drain site limits journal last marks last_marks outbox back code
  posted_first : (poster : Outgoing (MarkedOutbox W M))
      → IsPostedFirst disk marks_disk drain site limits journal marks outbox poster
      → back ≡ poster.poster.outbox.outbox
      → last_marks ≡ poster.poster.outbox.marks.journal.disk
      → ((poster.poster.failed ≡ true) × (code ≡ outbox_write_code))
      ⊎ ((poster.poster.failed ≡ false) × IsNotBegun limits (disk.seen journal) [] code)
      → IsNoStart disk marks_disk drain site limits journal last marks last_marks outbox back code

-- a ledger that released its closed keys, or couldn't, and then its disk. If it did, the held keys
-- are those whose log was open, and a crash leaves its history with all requests that released the
-- others. Otherwise its book is as it was. At each moment until then a crash leaves the history
-- with a prefix of these requests
pub record IsForgottenIn {D : Type 0} (disk : Disk.Ghosts D) (ledger : Ledger D)
    (last : D) : Type 0 where
  pub left : Ledger D
  pub last_is : last ≡ left.journal.disk
  pub result : Result (Unit {0}) KeepError
  pub forgotten : OnOk result (IsPermutation (open_entries ledger.book.book.entries) left.book.book.entries)
  pub stands : OnOk result ((before : List Exchange) → HasKept disk ledger before []
      → HasKept disk left
      (history_under (rules_of ledger) before (lets_go ledger.book.book.entries)) [])
  pub held : OnErr result (left.book ≡ ledger.book)
  pub settled : ledger.settled ≡ true → IsErrOf result Unsettled → ⊥
  pub full : IsErrOf result (not_kept_for.Journal Full)
      → (length (disk.seen ledger.journal.disk)
      < ledger.journal.used + length (encoded (records_of ledger.releases (lets_go ledger.book.book.entries))))
      ⊎ (2 ^ 64 ≤ ledger.base + ledger.book.book.sealed + length (lets_go ledger.book.book.entries))
  pub failures : disk.failures last
      ≡ counted (has_keeping_failed result) (disk.failures ledger.journal.disk)
  pub crash : (before : List Exchange) → HasKept disk ledger before []
      → MayCrash (ledger_keeper disk) ledger left (rules_of ledger) before
      (lets_go ledger.book.book.entries)

module _ {D P S O L N : Type 0} (disk : Disk.Ghosts D) (reached : ℕ → Type 0) (port : Port P S)
    (outlet : Outlet O L) (notes_device : Drain N) (ports : List P) (ledger : Ledger D) (given : O)
    (notes later : N) (end : ServeEnd L) (last : D) where
  -- a run of a crew that ended well, over this ledger and after what was passed to this outlet
  -- before: all that is true of the crew, and its notes. At each moment of it a crash leaves the
  -- history with a prefix of the requests that were taken. Once all were taken, that is followed by
  -- a prefix of those that release the closed keys
  pub record IsServedOver : Type 0 where
    pub account : Account L (Ledger D)
    pub crew : (start : O) (first : List Letter) → outlet.posted start first given
        → (before : List Exchange) → BeginsWith (ledger_keeper disk) ledger before
        → HasAccount (keeper_of_ledger disk reached) port outlet start first (rules_of ledger)
        before ports account
    pub count : (1 ≤ length ports) × (length ports ≤ most_ports)
    pub noted : (history : List Exchange) → Represents account.book.book.book history
        → WritesAccount notes_device history account notes later end
    pub outbox_is : end.outbox ≡ account.outbox
    pub crash : (before : List Exchange) → BeginsWith (ledger_keeper disk) ledger before
        → MayCrash (ledger_keeper disk) ledger account.book (rules_of ledger) before account.taken
    pub forgets : IsForgottenIn disk account.book last

  -- a run whose crew ended with a fault. At each moment of it a crash leaves the history with a
  -- prefix of the requests that were carried out and of those behind
  pub record IsFaultedOver : Type 0 where
    pub fault : CrewFault L (Ledger D)
    pub crew : (start : O) (first : List Letter) → outlet.posted start first given
        → (before : List Exchange) → BeginsWith (ledger_keeper disk) ledger before
        → HasFault (keeper_of_ledger disk reached) outlet start first given (rules_of ledger) before
        (length ports) fault
    pub counted : (fault.cause ≡ PortCount) ↔ ((length ports ≡ 0) ⊎ (most_ports < length ports))
    pub noted : WritesFault notes_device fault.cause fault.outbox fault.unsent notes later end
    pub left : Ledger D
    pub left_is : fault.book ≡ Some left
    pub last_is : last ≡ left.journal.disk
    pub crash : (before : List Exchange) → BeginsWith (ledger_keeper disk) ledger before
        → MayCrashWithin (keeper_of_ledger disk reached) ledger (rules_of ledger) before (length ports)
        fault.taken fault.behind left

  abbrev pub IsRunOver : Type 0
  IsRunOver = IsServedOver ⊎ IsFaultedOver

module _ {D M P S W N : Type 0} (disk : Disk.Ghosts D) (marks_disk : Disk.Ghosts M)
    (port : Port P S) (drain : Drain W) (notes_device : Drain N) (site : Site) (rules : Rules)
    (ports : List P) (journal : D) (marks : M) (outbox : W) (notes later : N)
    (end : ServeEnd W) (last : D) (last_marks : M) where
  -- a run that did not begin: its notes have a number alone, and this is why. At each moment a crash
  -- leaves what it might have left before, or a journal that a later start begins with the same history
  pub record IsNotStarted : Type 0 where
    pub code : ℕ
    pub back : W
    pub why : IsNoStart disk marks_disk drain site rules.limits journal last marks last_marks outbox back
        code
    pub noted : WritesNumber notes_device code back [] notes later end
    pub crash : LeavesStart disk rules.limits journal last

  -- a run over a ledger that the disk held, by these rules, after the letters that were still to be
  -- posted. Its outbox and the disk of the marks are those of what its crew left
  pub record IsDaemonStarted : Type 0 where
    pub ledger : Ledger D
    pub poster : Outgoing (MarkedOutbox W M)
    pub begun : IsLedgerBegun disk rules.limits journal ledger
    pub rule : ledger.releases ≡ rules.releases
    pub first : IsPostedFirst disk marks_disk drain site rules.limits journal marks outbox poster
    pub all_sent : poster.unsent ≡ []
    pub left : ServeEnd (MarkedOutbox W M)
    pub run : IsRunOver disk (λ _. Unit {0}) port (outbox_outlet (marking_drain drain marks_disk))
        notes_device ports ledger poster notes later left last
    pub end_is : end ≡ record { outbox = left.outbox.outbox; status = left.status }
    pub last_marks_are : last_marks ≡ left.outbox.marks.journal.disk

  -- a run over these ports, these disks and this outbox
  abbrev pub IsServeOver : Type 0
  IsServeOver = IsNotStarted ⊎ IsDaemonStarted

-- a run over `agents` ports of a socket, each with `uses` uses; or nothing began, for this cause.
-- Then memory for the list of the ports was refused, or there are not 1 to `most_ports` agents. The
-- ports expose nothing, so they are any that have these uses
pub record IsOverSocket (run : List ℕ → Type 0) (nothing : CrewCause → Type 0) (agents uses : ℕ)
    : Type 0 where
  pub crew : (1 ≤ agents) × (agents ≤ most_ports)
      → run (replicate agents uses) ⊎ nothing Refused
  pub none : (agents ≡ 0) ⊎ (most_ports < agents) → nothing PortCount

-- a run over a socket, these disks and this outbox. If nothing began, no disk was touched, and its
-- notes have a number alone
abbrev pub IsSocketServeOver : {D M W N : Type 0} → Disk.Ghosts D → Disk.Ghosts M → Drain W
    → Drain N → Type 0 → Site → Rules → ℕ → ℕ → D → M → W → N → N → ServeEnd W → D → M → Type 0
IsSocketServeOver disk marks_disk drain notes_device may_end site rules agents uses journal marks
    outbox notes later end last last_marks =
    IsOverSocket
    (λ ports. IsServeOver disk marks_disk (socket_port may_end) drain notes_device site rules ports
    journal marks outbox notes later end last last_marks)
    (λ cause. WritesFault notes_device cause outbox [] notes later end × (last ≡ journal)
    × (last_marks ≡ marks))
    agents uses
