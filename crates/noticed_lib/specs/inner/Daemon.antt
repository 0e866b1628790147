-- The start of a daemon over a journal, and the notes of a run.
use Rattle.std.specs.Prelude.{List, length, ◌≡◌, ℕ, ◌+◌, ◌<◌, ◌≤◌, Bool, false, Option, ◌⊎◌}
use Rattle.dsn_book.specs.declared.open_line.OpenLine.{OpenLine}
use Rattle.dsn_crew.specs.Crew.{most_ports}
use Rattle.dsn_crew.specs.KeeperHistory.{BeginsWith}
use Rattle.dsn_crew.specs.agents.Port.{Given, connection, done, failed}
use Rattle.dsn_crew.specs.declared.agents.agent_line.AgentLine.{AgentLine}
use Rattle.dsn_crew.specs.declared.crew_cause.CrewCause.{CrewCause}
use Rattle.dsn_crew.specs.declared.crew_cause.CrewCause.TheVariants.{PortCount, Refused}
use Rattle.dsn_device.specs.UntilFailure.{WritesUntilFailure}
use Rattle.dsn_device.specs.declared.drain.Drain.{Ghosts as Drain}
use Rattle.dsn_ledger.specs.Compacted.{compacted, raised}
use Rattle.dsn_ledger.specs.EarlierRuns.{of_earlier_run}
use Rattle.dsn_ledger.specs.Header.{MayBeRaised}
use Rattle.dsn_ledger.specs.InPlace.{IsLedgerInPlaceOf}
use Rattle.dsn_ledger.specs.JournalFolder.{IsOpenedToRaise}
use Rattle.dsn_ledger.specs.KeptBook.{ledger_keeper}
use Rattle.dsn_ledger.specs.OpenLedger.{Ledger}
use Rattle.dsn_ledger.specs.declared.opening.Opened.{Opened}
use Rattle.dsn_journal.specs.Records.{encoded, recovered}
use Rattle.dsn_journal.specs.declared.disk.Disk
use Rattle.dsn_outcome.specs.History.{Limits, Exchange}
use Rattle.dsn_outcome.specs.Letter.{Letter}
use Rattle.noticed_lib.specs.daemon.AgentLines.{run_lines}
use Rattle.noticed_lib.specs.daemon.Serve.{run_status}
use Rattle.dsn_notes.specs.OpenLogs.{AreOpenLines}

-- a run may begin with a ledger: after some history of earlier runs, and after each that it is in
-- place of, as one of earlier runs
pub record BeginsAnew {D : Type 0} (disk : Disk.Ghosts D) (ledger : Ledger D) : Type 0 where
  pub some : (before : List Exchange) × BeginsWith (ledger_keeper disk) ledger before
  pub each : (long : List Exchange)
      → IsLedgerInPlaceOf ledger.book ledger.base (recovered (disk.seen ledger.journal.disk)) long
      → BeginsWith (ledger_keeper disk) ledger (of_earlier_run long)

-- a ledger that was opened from this journal, for a run under these limits
pub record IsOpenedFrom {D : Type 0} (disk : Disk.Ghosts D) (limits : Limits) (journal : D)
    (ledger : Ledger D) : Type 0 where
  pub edges : List ℕ
  pub opened : Opened D
  pub is : IsOpenedToRaise disk limits edges journal (record opened { ledger = ledger })
  pub allowed : MayBeRaised limits limits

-- a ledger whose file has no room for the shorter records, under these limits and with these letters that wait
abbrev pub NeedsMoreRoom : {D : Type 0} → Disk.Ghosts D → Limits → Ledger D → List Letter → Type 0
NeedsMoreRoom disk limits ledger waiting =
    length (disk.seen ledger.journal.disk)
    < length (encoded (compacted (raised limits ledger.book) ledger.base waiting))

-- the notes of a run: what these agents did, whether the outbox is whole, these letters, and the
-- logs that this history leaves open. Each line was written, up to one that could not be written
pub record WritesRun {N : Type 0} (notes_device : Drain N) (history : List Exchange)
    (agents : List AgentLine) (whole : Bool) (unsent : List Letter) (notes later : N)
    (status : ℕ) : Type 0 where
  pub logs : Option (List OpenLine)
  pub logs_are : AreOpenLines history logs
  pub lost : Bool
  pub noted : WritesUntilFailure notes_device false lost notes later
      (run_lines agents whole unsent logs)
  pub status_is : status ≡ run_status lost agents whole logs

-- these agents get no ports: they are not 1 to `most_ports`, or memory for the ports was refused
abbrev pub HasNoPorts : ℕ → CrewCause → Type 0
HasNoPorts agents cause =
    ((cause ≡ PortCount) × ((agents ≡ 0) ⊎ (most_ports < agents)))
    ⊎ ((cause ≡ Refused) × (1 ≤ agents) × (agents ≤ most_ports))

-- one answer of a port, by its uses before and after: with none left it is done. Else there is one
-- use fewer, and it is done only where its watch may end the run
abbrev pub UsesOne : Type 0 → ℕ → ℕ → Given → Type 0
UsesOne may_end uses left connection = uses ≡ left + 1
UsesOne may_end uses left failed = uses ≡ left + 1
UsesOne may_end uses left done = ((uses ≡ 0) × (left ≡ 0)) ⊎ ((uses ≡ left + 1) × may_end)
