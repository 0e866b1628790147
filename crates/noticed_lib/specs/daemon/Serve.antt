-- Serve: the result of the daemon's run over ports.
use Rattle.std.specs.Prelude.{◌≡◌, ◌≢◌, ℕ, ◌<◌, ◌≤◌, ◌⊎◌, ◌↔◌, Bool, false, not, ◌||◌, List, [], length, Option, replicate, is_some, is_none, if◌then◌else◌}
use Rattle.dsn_book.specs.declared.open_line.OpenLine.{OpenLine}
use Rattle.dsn_book.specs.RuledBook.{ruled_keeper}
use Rattle.dsn_book.specs.Release.{Rules, history_under}
use Rattle.dsn_book.specs.declared.ruled_book.RuledBook.{RuledBook}
use Rattle.dsn_book.specs.declared.not_kept.NotKept.{NotKept}
use Rattle.dsn_crew.specs.Crew.{Account, CrewFault, HasAccount, HasFault, crew_cause_code, most_ports}
use Rattle.dsn_crew.specs.post.Outlet.{outbox_outlet}
use Rattle.dsn_crew.specs.declared.agents.agent_line.AgentLine.{AgentLine}
use Rattle.dsn_crew.specs.declared.crew_cause.CrewCause.{CrewCause}
use Rattle.dsn_crew.specs.declared.crew_cause.CrewCause.TheVariants.{Refused, PortCount, Unkept}
use Rattle.dsn_crew.specs.declared.agents.port.Port.{Ghosts as Port}
use Rattle.dsn_device.specs.UntilFailure.{WritesUntilFailure}
use Rattle.dsn_device.specs.declared.drain.Drain.{Ghosts as Drain}
use Rattle.dsn_outcome.specs.History.{Exchange}
use Rattle.dsn_outcome.specs.Letter.{Letter}
use Rattle.dsn_report.specs.Outgoing.{begun}
use Rattle.dsn_report.specs.Site.{Site}
use Rattle.dsn_notes.specs.OpenLogs.{AreOpenLines}
use Rattle.noticed_lib.specs.daemon.AgentLines.{account_lines, number_lines, port_fault}
use Rattle.noticed_lib.specs.daemon.SocketUses.{socket_port}
use Rattle.noticed_lib.specs.declared.daemon.serve_end.ServeEnd.{ServeEnd}

-- the exit status of a run of these agents that ended well
abbrev pub run_status : Bool → List AgentLine → Bool → Option (List OpenLine) → ℕ
run_status lost agents whole logs =
    if lost || (is_some (port_fault agents) || (not whole || is_none logs)) then 1 else 0

-- the exit status of a run that ended well, by whether a line of the notes was lost
abbrev pub account_status : {W B : Type 0} → Bool → Account W B → Option (List OpenLine) → ℕ
account_status lost account logs =
    run_status lost account.agents account.whole logs

module _ {W N : Type 0} (notes_device : Drain N) where
  -- a run with this history and account was written to the notes: each line, up to one that could not
  -- be written
  pub record WritesAccount {B : Type 0} (history : List Exchange) (account : Account W B)
      (notes later : N) (end : ServeEnd W) : Type 0 where
    pub logs : Option (List OpenLine)
    pub logs_are : AreOpenLines history logs
    pub lost : Bool
    pub noted : WritesUntilFailure notes_device false lost notes later (account_lines account logs)
    pub outbox_is : end.outbox ≡ account.outbox
    pub status_is : end.status ≡ account_status lost account logs

  -- the number of a fault was written to the notes, and the letters that were not written: each line,
  -- up to one that could not be written
  pub record WritesNumber (code : ℕ) (outbox : W) (unsent : List Letter) (notes later : N)
      (end : ServeEnd W) : Type 0 where
    pub lost : Bool
    pub noted : WritesUntilFailure notes_device false lost notes later
        (number_lines code unsent)
    pub outbox_is : end.outbox ≡ outbox
    pub status_is : end.status ≡ 1

  -- the number of a crew's fault was written so
  abbrev pub WritesFault : CrewCause → W → List Letter → N → N → ServeEnd W → Type 0
  WritesFault cause = WritesNumber (crew_cause_code cause)

module _ {P S W N : Type 0} (port : Port P S) (drain : Drain W) (notes_device : Drain N)
    (site : Site) (rules : Rules) (ports : List P) (start : W) (notes later : N)
    (end : ServeEnd W) where
  -- a run by these rules that ended well, over a book that was empty. It has the account of its
  -- crew, and its notes, over the logs that the requests taken leave open
  pub record IsDaemonServed : Type 0 where
    pub account : Account W RuledBook
    pub crew : HasAccount ruled_keeper port (outbox_outlet drain) (begun site start) [] rules [] ports account
    pub count : (1 ≤ length ports) × (length ports ≤ most_ports)
    pub noted : WritesAccount notes_device (history_under rules [] account.taken) account
        notes later end

  -- a run whose crew ended with a fault: what is left of it, and its notes. The cause is PortCount
  -- exactly if there are not 1 to `most_ports` ports, and never a request that was not kept
  pub record IsFaulted : Type 0 where
    pub fault : CrewFault W RuledBook
    pub crew : HasFault ruled_keeper (outbox_outlet drain) (begun site start) [] (begun site start) rules []
        (length ports) fault
    pub counted : (fault.cause ≡ PortCount) ↔ ((length ports ≡ 0) ⊎ (most_ports < length ports))
    pub kept : (why : NotKept) → fault.cause ≢ Unkept why
    pub noted : WritesFault notes_device fault.cause fault.outbox fault.unsent notes later end

  -- a run over these ports
  abbrev pub IsServe : Type 0
  IsServe = IsDaemonServed ⊎ IsFaulted

-- a run over the given number of ports of a socket, each with the given number of uses. Or, for 1 to
-- `most_ports` of them: memory for their list was refused, and nothing began. `may_end` says whether a
-- watch may end the run before the uses are used up
abbrev pub IsSocketServe : {W N : Type 0} → Drain W → Drain N → Type 0 → Site → Rules → ℕ → ℕ
    → W → N → N → ServeEnd W → Type 0
IsSocketServe drain notes_device may_end site rules agents uses start notes later end =
    IsServe (socket_port may_end) drain notes_device site rules (replicate agents uses) start notes
    later end
    ⊎ (((1 ≤ agents) × (agents ≤ most_ports))
    × WritesFault notes_device Refused start [] notes later end)
