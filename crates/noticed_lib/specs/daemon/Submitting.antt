-- Runs over a journal whose letters are submitted to a mail server: what a run begins with, and its
-- result.
use Rattle.std.specs.Prelude.{◌≡◌, ◌⊎◌, ℕ, Bool, List, [], Result, Ok, Err}
use Rattle.dsn_book.specs.Release.{Rules}
use Rattle.dsn_device.specs.declared.drain.Drain
use Rattle.dsn_device.specs.declared.source.Source
use Rattle.dsn_crew.specs.declared.agents.port.Port.{Ghosts as Port}
use Rattle.dsn_crew.specs.declared.crew_cause.CrewCause.{CrewCause}
use Rattle.dsn_hand_in.specs.JournalMarks.{journal_marks}
use Rattle.dsn_hand_in.specs.MailOutlet.{MailOutlet, Passes, mail_outlet, mail_start}
use Rattle.dsn_hand_in.specs.SitedLetter.{SitedLetter}
use Rattle.dsn_hand_in.specs.declared.mail_parts.MailParts.{MailParts}
use Rattle.dsn_journal.specs.Marks.{Marks}
use Rattle.dsn_journal.specs.declared.disk.Disk
use Rattle.dsn_ledger.specs.OpenLedger.{Ledger}
use Rattle.dsn_outcome.specs.Letter.{Letter}
use Rattle.dsn_smtp.specs.declared.hand_in_fault.HandInFault.{HandInFault}
use Rattle.noticed_lib.specs.daemon.Journaled.{IsFolderOpened, IsLedgerBegun, IsNotBegun, IsNotOpened, IsOverSocket, IsRunOver, LeavesStart}
use Rattle.noticed_lib.specs.daemon.Serve.{WritesFault, WritesNumber}
use Rattle.noticed_lib.specs.daemon.SocketUses.{socket_port}
use Rattle.noticed_lib.specs.declared.daemon.journaled_end.JournaledEnd.{JournaledEnd}
use Rattle.noticed_lib.specs.declared.daemon.serve_end.ServeEnd.{ServeEnd}
use Rattle.noticed_lib.specs.declared.daemon.serving.Serving.{Serving}
use Rattle.noticed_lib.specs.declared.daemon.serve_to_server.MailTerms.{MailTerms}
use Rattle.noticed_lib.specs.declared.daemon.serve_to_server.Submitted.{Submitted}
use Rattle.dsn_report.specs.Site.{Site}

-- what is left of an outlet, with the disk of its marks in their place
abbrev pub with_disk : {S C K M : Type 0} → MailParts S C K (Marks M) → MailParts S C K M
with_disk parts = record {
  submitter = parts.submitter;
  server = parts.server;
  refused = parts.refused;
  marks = parts.marks.journal.disk;
}

module _ {D M P Q S C K N : Type 0} (disk : Disk.Ghosts D) (marks_disk : Disk.Ghosts M)
    (port : Port P Q) (source : Source.Ghosts S) (drain : Drain.Ghosts S)
    (gives : C → C → Result S HandInFault → Type 0)
    (keeps : K → List ℕ → List ℕ → List ℕ → Bool → K → Type 0) (notes_device : Drain.Ghosts N)
    (site : Site) (rules : Rules) (ports : List P) (journal : D) (marks : M)
    (terms : MailTerms C K) (notes later : N) where
  -- A run that did not begin, so that nothing was submitted: its notes have a number alone. Its folder
  -- was not opened, or the ledger was not begun with the letters that wait. At each moment a crash
  -- leaves what it might have left before, or a journal that a later start begins with the same history
  pub record IsNotSubmitting (end : JournaledEnd (MailTerms C K) D M) : Type 0 where
    pub code : ℕ
    pub why : IsNotOpened disk marks_disk rules.limits journal end.journal marks end.marks code
        ⊎ ((opened : Marks M) × ((first : List Letter)
        × (IsFolderOpened disk marks_disk rules.limits journal marks opened first
        × (IsNotBegun rules.limits (disk.seen journal) first code
        × (end.marks ≡ opened.journal.disk)))))
    pub noted : WritesNumber notes_device code terms [] notes later end.end
    pub crash : LeavesStart disk rules.limits journal end.journal

  -- A run over a ledger that the disk held, by these rules. The letters that no mark counted were
  -- passed to its outlet first, and stay in the journal. What its crew left of the outlet is
  -- returned, with the disk of the marks
  pub record IsSubmitting (end : Submitted S C K D M) : Type 0 where
    pub ledger : Ledger D
    pub opened : Marks M
    pub first : List Letter
    pub given : MailOutlet S C K (Marks M)
    pub folder : IsFolderOpened disk marks_disk rules.limits journal marks opened first
    pub begun : IsLedgerBegun disk rules.limits journal ledger
    pub rule : ledger.releases ≡ rules.releases
    pub passed : Passes source drain gives keeps (journal_marks marks_disk)
        (mail_start site terms.name terms.give_up opened.mark terms.server terms.refused opened)
        first given
    pub left : ServeEnd (MailParts S C K (Marks M))
    pub run : IsRunOver disk (λ _. Unit {0}) port
        (mail_outlet source drain gives keeps (journal_marks marks_disk)) notes_device ports ledger
        given notes later left end.journal
    pub left_is : end.left ≡ with_disk left.outbox
    pub status_is : end.status ≡ left.status

  -- a run over these ports, these disks and this server
  abbrev pub IsServeToServer :
      Result (Submitted S C K D M) (JournaledEnd (MailTerms C K) D M) → Type 0
  IsServeToServer (Ok end) = IsSubmitting end
  IsServeToServer (Err end) = IsNotSubmitting end

-- nothing began, for this cause: both disks and the terms are as they were, and the notes have a number alone
abbrev pub IsUntouched : {D M S C K N : Type 0} → Drain.Ghosts N → D → M → MailTerms C K → N → N → CrewCause
    → Result (Submitted S C K D M) (JournaledEnd (MailTerms C K) D M) → Type 0
IsUntouched notes_device journal marks terms notes later cause (Ok end) = ⊥
IsUntouched notes_device journal marks terms notes later cause (Err end) =
    WritesFault notes_device cause terms [] notes later end.end × (end.journal ≡ journal)
    × (end.marks ≡ marks)

-- a run over a socket. If nothing began, no disk was touched, nothing was submitted, and its notes have a number alone
abbrev pub IsSocketServeToServer : {D M S C K N : Type 0} → Disk.Ghosts D → Disk.Ghosts M → Source.Ghosts S
    → Drain.Ghosts S → (C → C → Result S HandInFault → Type 0)
    → (K → List ℕ → List ℕ → List ℕ → Bool → K → Type 0) → Drain.Ghosts N → Type 0 → Serving → D → M
    → MailTerms C K → N → N → Result (Submitted S C K D M) (JournaledEnd (MailTerms C K) D M) → Type 0
IsSocketServeToServer disk marks_disk source drain gives keeps notes_device may_end serving journal marks
    terms notes later result =
    IsOverSocket
    (λ ports. IsServeToServer disk marks_disk (socket_port may_end) source drain gives keeps notes_device
    serving.site (record { limits = serving.limits; releases = serving.releases }) ports journal marks
    terms notes later result)
    (λ cause. IsUntouched notes_device journal marks terms notes later cause result)
    serving.agents serving.max_use
