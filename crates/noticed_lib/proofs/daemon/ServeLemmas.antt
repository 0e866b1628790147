-- Serve: a run over ports of which nothing is seen but their uses.
use Rattle.std.proofs.Common.{◌≡◌, ℕ, suc, ◌<◌, ◌≤◌, ◌⊎◌, List, [], ◌∷◌, All, length, replicate, false, inl, inr, refl, ap, sym, ◌∙◌, subst, arith}
use Rattle.std.proofs.lemmas.List.{append-nil, length-replicate}
use Rattle.std.proofs.lemmas.List.Elements.{All-cons, All-head, All-nil, All-tail}
use Rattle.std.specs.Prelude.{Bool, Err, None, Ok, Result}
use Rattle.dsn_book.proofs.ReleaseLemmas.{under-none}
use Rattle.dsn_book.specs.Book.{Represents}
use Rattle.dsn_book.specs.RuledBook.{book_of, has_by_rules, ruled_keeper}
use Rattle.dsn_book.specs.Release.{Rules}
use Rattle.dsn_book.specs.declared.ruled_book.RuledBook.{RuledBook}
use Rattle.dsn_book.specs.declared.ruled_book.RuledBook.TheVariants.{Holding, Releasing}
use Rattle.dsn_book.specs.declared.keeper.Keeper.{Ghosts as Keeper}
use Rattle.dsn_crew.specs.KeeperHistory.{IsEarlier}
use Rattle.dsn_crew.specs.agents.Agent.{LaneHalves}
use Rattle.dsn_crew.specs.agents.Port.{AreOverPort, Given, all_given}
use Rattle.dsn_crew.specs.Crew.{Account, AreAgentAccounts, CrewFault, HasFault, IsAccountAfter, IsAgentAccount, IsFaultWith, most_ports}
use Rattle.dsn_crew.specs.declared.crew_cause.CrewCause.{CrewCause}
use Rattle.dsn_crew.specs.declared.crew_cause.CrewCause.TheVariants.{PortCount, Refused, Unkept}
use Rattle.dsn_crew.specs.declared.agents.agent_line.AgentLine.{AgentLine}
use Rattle.dsn_crew.specs.declared.agents.port.Port.{Ghosts as Port}
use Rattle.dsn_crew.specs.declared.post.outlet.Outlet.{Ghosts as Outlet}
use Rattle.dsn_crew.specs.post.Outlet.{outbox_outlet}
use Rattle.dsn_device.specs.declared.drain.Drain.{Ghosts as Drain}
use Rattle.dsn_device.specs.declared.source.Source.{Ghosts as Source}
use Rattle.dsn_hand_in.specs.JournalMarks.{journal_marks}
use Rattle.dsn_hand_in.specs.MailOutlet.{mail_outlet}
use Rattle.dsn_smtp.specs.declared.hand_in_fault.HandInFault.{HandInFault}
use Rattle.dsn_ledger.specs.OpenLedger.{Ledger, rules_of}
use Rattle.dsn_journal.specs.declared.disk.Disk
use Rattle.dsn_outcome.specs.History.{Exchange, answers_after, answers_to, sealed_letters}
use Rattle.dsn_outcome.specs.Letter.{Letter}
use Rattle.dsn_outcome.specs.Request.{Request}
use Rattle.dsn_report.specs.Outgoing.{begun}
use Rattle.dsn_report.specs.Site.{Site}
use Rattle.noticed_lib.specs.daemon.Journaled.{IsOverSocket, IsRunOver, IsServeOver, marking_drain}
use Rattle.dsn_ledger.specs.KeptBook.{ledger_keeper}
use Rattle.noticed_lib.specs.daemon.Serve.{IsServe, IsSocketServe, WritesFault}
use Rattle.noticed_lib.specs.daemon.SocketUses.{IsWithin, socket_port}
use Rattle.noticed_lib.specs.daemon.Submitting.{IsServeToServer}
use Rattle.noticed_lib.specs.declared.daemon.journaled_end.JournaledEnd.{JournaledEnd}
use Rattle.noticed_lib.specs.declared.daemon.serve_to_server.MailTerms.{MailTerms}
use Rattle.noticed_lib.specs.declared.daemon.serve_to_server.Submitted.{Submitted}
use Rattle.noticed_lib.specs.inner.Daemon.{HasNoPorts}
use Rattle.noticed_lib.specs.declared.daemon.serve_end.ServeEnd.{ServeEnd}

-- a port that doesn't expose its connections, and may give no more than these uses allow
module _ {P S : Type 0} (port : Port P S) (untold : (one : P) → port.conns one ≡ None) (may_end : Type 0) (uses : ℕ) where
  abbrev pub Fits : P → Type 0
  Fits one = (given : List Given) → port.may_give one given → IsWithin may_end uses given

  module _ (rules : Rules) (before : List Exchange) (taken : List Request) where
    agent-uses : (agent : ℕ) (one : P) (line : AgentLine) (ends : LaneHalves) → Fits one → IsAgentAccount (port.conns one) (port.may_give one) rules before taken agent line ends → IsAgentAccount None (IsWithin may_end uses) rules before taken agent line ends
    agent-uses agent one line ends fits is = record {
      number = is.number;
      taken_all = is.taken_all;
      answered = is.answered;
      sessions = is.sessions;
      follow = is.follow;
      over = subst (λ conns. AreOverPort conns is.sessions false line.port_failed) (untold one) is.over;
      gave = record { last = is.gave.last; gave = fits (all_given line.connections is.gave.last) is.gave.gave; ends = is.gave.ends };
      heard = is.heard;
      sent = is.sent;
      got = is.got;
      requests = is.requests;
      connections = is.connections;
      faults = is.faults;
      few = is.few;
    }

    agents-uses : (agent : ℕ) (ports : List P) (lines : List AgentLine) (crew : List LaneHalves) → All Fits ports
        → AreAgentAccounts port rules before taken agent ports lines crew → AreAgentAccounts (socket_port may_end) rules before taken agent (replicate (length ports) uses) lines crew
    agents-uses agent [] [] [] fit are = are
    agents-uses agent [] [] (ends ∷ crew) fit are = absurd are
    agents-uses agent [] (line ∷ lines) crew fit are = absurd are
    agents-uses agent (one ∷ ports) [] crew fit are = absurd are
    agents-uses agent (one ∷ ports) (line ∷ lines) [] fit are = absurd are
    agents-uses agent (one ∷ ports) (line ∷ lines) (ends ∷ crew) fit are = (
      agent-uses agent one line ends (All-head Fits one ports fit) are.0,
      agents-uses (suc agent) ports lines crew (All-tail Fits one ports fit) are.1,
    )

  -- the account of a run that ended well, over any keeper
  account-uses : {B O L : Type 0} (keeper : Keeper B) (outlet : Outlet O L) (start : O) (first : List Letter) (rules : Rules) (before : List Exchange) (letters : List Letter) (ports : List P) (account : Account L B) → All Fits ports
      → IsAccountAfter keeper port outlet start first rules before letters ports account → IsAccountAfter keeper (socket_port may_end) outlet start first rules before letters (replicate (length ports) uses) account
  account-uses keeper outlet start first rules before letters ports account fit is = record {
    agents = agents-uses rules before account.taken 0 ports account.agents account.halves fit is.agents;
    only = rw (length-replicate (length ports)) is.only;
    book_rules = is.book_rules;
    book = is.book;
    count = is.count;
    outbox = is.outbox;
  }

  module _ {W N : Type 0} (drain : Drain W) (notes_device : Drain N) (site : Site) (rules : Rules) (ports : List P) (fit : All Fits ports) (start : W) (notes later : N) (end : ServeEnd W) where
    pub serve-uses : IsServe port drain notes_device site rules ports start notes later end → IsServe (socket_port may_end) drain notes_device site rules (replicate (length ports) uses) start notes later end
    serve-uses (inl served) = inl (record {
      account = served.account;
      crew = record { letters = served.crew.letters; sealed = served.crew.sealed; is = account-uses ruled_keeper (outbox_outlet drain) (begun site start) [] rules [] served.crew.letters ports served.account fit served.crew.is };
      count = rw (length-replicate (length ports)) served.count;
      noted = served.noted;
    })
    serve-uses (inr faulted) = inr (record {
      fault = faulted.fault;
      crew = rw (length-replicate (length ports)) faulted.crew;
      counted = rw (length-replicate (length ports)) faulted.counted;
      kept = faulted.kept;
      noted = faulted.noted;
    })

  -- and of a run over a journal
  module _ {D O L N : Type 0} (disk : Disk.Ghosts D) (outlet : Outlet O L) (notes_device : Drain N) (ports : List P) (fit : All Fits ports) (ledger : Ledger D) (given : O) (notes later : N) (end : ServeEnd L) (last : D) where
    run-uses : IsRunOver disk (λ _. Unit {0}) port outlet notes_device ports ledger given notes later end last
        → IsRunOver disk (λ _. Unit {0}) (socket_port may_end) outlet notes_device (replicate (length ports) uses) ledger given notes later end last
    run-uses (inl served) = inl (record {
      account = served.account;
      crew = λ start first by before with_it.
          let has = served.crew start first by before with_it in
          record { letters = has.letters; sealed = has.sealed; is = account-uses (ledger_keeper disk) outlet start first (rules_of ledger) before has.letters ports served.account fit has.is };
      count = rw (length-replicate (length ports)) served.count;
      noted = served.noted;
      outbox_is = served.outbox_is;
      crash = served.crash;
      forgets = served.forgets;
    })
    run-uses (inr faulted) = inr (record {
      fault = faulted.fault;
      crew = λ start first by before with_it. rw (length-replicate (length ports)) (faulted.crew start first by before with_it);
      counted = rw (length-replicate (length ports)) faulted.counted;
      noted = faulted.noted;
      left = faulted.left;
      left_is = faulted.left_is;
      last_is = faulted.last_is;
      crash = rw (length-replicate (length ports)) faulted.crash;
    })

  pub over-uses : {D M W N : Type 0} (disk : Disk.Ghosts D) (marks_disk : Disk.Ghosts M) (drain : Drain W) (notes_device : Drain N) (site : Site) (rules : Rules) (ports : List P) (fit : All Fits ports) (journal : D) (marks : M) (outbox : W) (notes later : N) (end : ServeEnd W) (last : D) (last_marks : M)
      → IsServeOver disk marks_disk port drain notes_device site rules ports journal marks outbox notes later end last last_marks
      → IsServeOver disk marks_disk (socket_port may_end) drain notes_device site rules (replicate (length ports) uses) journal marks outbox notes later end last last_marks
  over-uses disk marks_disk drain notes_device site rules ports fit journal marks outbox notes later end last last_marks (inl none) = inl (record { code = none.code; back = none.back; why = none.why; noted = none.noted; crash = none.crash })
  over-uses disk marks_disk drain notes_device site rules ports fit journal marks outbox notes later end last last_marks (inr started) = inr (record {
    ledger = started.ledger;
    poster = started.poster;
    begun = started.begun;
    rule = started.rule;
    first = started.first;
    all_sent = started.all_sent;
    left = started.left;
    run = run-uses disk (outbox_outlet (marking_drain drain marks_disk)) notes_device ports fit started.ledger started.poster notes later started.left last started.run;
    end_is = started.end_is;
    last_marks_are = started.last_marks_are;
  })

  pub server-uses : {D M T C K N : Type 0} (disk : Disk.Ghosts D) (marks_disk : Disk.Ghosts M) (source : Source T) (drain : Drain T) (gives : C → C → Result T HandInFault → Type 0) (keeps : K → List ℕ → List ℕ → List ℕ → Bool → K → Type 0) (notes_device : Drain N) (site : Site) (rules : Rules) (ports : List P) (fit : All Fits ports) (journal : D) (marks : M) (terms : MailTerms C K) (notes later : N) (result : Result (Submitted T C K D M) (JournaledEnd (MailTerms C K) D M))
      → IsServeToServer disk marks_disk port source drain gives keeps notes_device site rules ports journal marks terms notes later result
      → IsServeToServer disk marks_disk (socket_port may_end) source drain gives keeps notes_device site rules (replicate (length ports) uses) journal marks terms notes later result
  server-uses disk marks_disk source drain gives keeps notes_device site rules ports fit journal marks terms notes later (Err end) none = record { code = none.code; why = none.why; noted = none.noted; crash = none.crash }
  server-uses disk marks_disk source drain gives keeps notes_device site rules ports fit journal marks terms notes later (Ok end) started = record {
    ledger = started.ledger;
    opened = started.opened;
    first = started.first;
    given = started.given;
    folder = started.folder;
    begun = started.begun;
    rule = started.rule;
    passed = started.passed;
    left = started.left;
    run = run-uses disk (mail_outlet source drain gives keeps (journal_marks marks_disk)) notes_device ports fit started.ledger started.given notes later started.left end.journal started.run;
    left_is = started.left_is;
    status_is = started.status_is;
  }

-- ports that have these uses, and this watch, may give no more than these uses have it
module _ {P H : Type 0} (ends : H → Type 0) (watch_of : P → H) (left_of : P → ℕ) (watch : H) (uses : ℕ) where
  abbrev IsOf : P → Type 0
  IsOf one = (left_of one ≡ uses) × (watch_of one ≡ watch)

  abbrev GivesWithin : P → Type 0
  GivesWithin one = (given : List Given) → IsWithin (ends (watch_of one)) (left_of one) given → IsWithin (ends watch) uses given

  port-fits : (one : P) → IsOf one → GivesWithin one
  port-fits one is given within = subst (λ (n : ℕ). IsWithin (ends watch) n given) is.0 (subst (λ (w : H). IsWithin (ends w) (left_of one) given) is.1 within)

  pub ports-fit : (ports : List P) → All IsOf ports → All GivesWithin ports
  ports-fit [] are = All-nil GivesWithin
  ports-fit (one ∷ ports) are = All-cons GivesWithin one ports (port-fits one (All-head IsOf one ports are)) (ports-fit ports (All-tail IsOf one ports are))

-- what a book represents, whatever its rules
pub represented : (book : RuledBook) (history : List Exchange) → has_by_rules book history → Represents (book_of book) history
represented (Holding book) history has = has
represented (Releasing book) history has = has.represents

-- a run without a book, which did nothing
abbrev nothing_done : {W : Type 0} → CrewCause → W → CrewFault W RuledBook
nothing_done cause start = record { cause = cause; outbox = start; unsent = []; book = None; taken = []; behind = [] }

fault_of_none : {W : Type 0} (drain : Drain W) (site : Site) (rules : Rules) (agents : ℕ) (start : W) (cause : CrewCause) → IsFaultWith (outbox_outlet drain) (begun site start) [] (begun site start) [] agents (nothing_done cause start) cause → HasFault ruled_keeper (outbox_outlet drain) (begun site start) [] (begun site start) rules [] agents (nothing_done cause start)
fault_of_none drain site rules agents start cause is = record {
  sealed = [];
  are = record { are = ap sealed_letters (under-none rules []) ∙ sym (append-nil (sealed_letters [])) };
  is = is;
  book = tt;
}

-- a run that was refused for the number of its agents
serve-refused : {W N : Type 0} (may_end : Type 0) (uses : ℕ) (drain : Drain W) (notes_device : Drain N) (site : Site) (rules : Rules) (agents : ℕ) (start : W) (notes later : N) (end : ServeEnd W) → (agents ≡ 0) ⊎ (most_ports < agents) → WritesFault notes_device PortCount start [] notes later end → IsServe (socket_port may_end) drain notes_device site rules (replicate agents uses) start notes later end
serve-refused may_end uses drain notes_device site rules agents start notes later end few noted = inr (record {
  fault = nothing_done PortCount start;
  crew = fault_of_none drain site rules (length (replicate agents uses)) start PortCount (record { taken = refl; behind = refl; unsent = refl; outbox = refl });
  counted = (λ is. rw (length-replicate agents) few, λ is. refl);
  kept = λ why same. let never : PortCount ≡ Unkept why = same in cc;
  noted = noted;
})

-- a crew's agents are not too few, nor too many
pub no_crew : (agents : ℕ) → (1 ≤ agents) × (agents ≤ most_ports) → (agents ≡ 0) ⊎ (most_ports < agents) → ⊥
no_crew agents crew (inl none) = omega (arith, crew.0, none)
no_crew agents crew (inr more) = omega (arith, crew.1, more)

-- nothing is answered in no history
pub none_earlier : IsEarlier []
unfolding answers_after answers_to
none_earlier agent few = refl

-- a run over ports that are too many or too few, or whose book found no memory
pub no-book : {P S W N : Type 0} (port : Port P S) (drain : Drain W) (notes_device : Drain N) (site : Site) (rules : Rules) (ports : List P) (start : W) (notes later : N) (end : ServeEnd W) (cause : CrewCause) → HasNoPorts (length ports) cause → WritesFault notes_device cause start [] notes later end
    → IsServe port drain notes_device site rules ports start notes later end
no-book port drain notes_device site rules ports start notes later end cause (inl count) noted = inr (record {
  fault = nothing_done PortCount start;
  crew = fault_of_none drain site rules (length ports) start PortCount (record { taken = refl; behind = refl; unsent = refl; outbox = refl });
  counted = (λ is. count.1, λ is. refl);
  kept = λ why same. let never : PortCount ≡ Unkept why = same in cc;
  noted = subst (λ (it : CrewCause). WritesFault notes_device it start [] notes later end) count.0 noted;
})
no-book port drain notes_device site rules ports start notes later end cause (inr refused) noted = inr (record {
  fault = nothing_done Refused start;
  crew = fault_of_none drain site rules (length ports) start Refused (inl (record { taken = refl; behind = refl; unsent = refl; outbox = refl }));
  counted = (λ is. absurd (let never : Refused ≡ PortCount = is in cc), λ few. absurd (no_crew (length ports) (refused.1, refused.2) few));
  kept = λ why same. let never : Refused ≡ Unkept why = same in cc;
  noted = subst (λ (it : CrewCause). WritesFault notes_device it start [] notes later end) refused.0 noted;
})

-- a run over a socket whose agents get no ports
module _ {W N : Type 0} (may_end : Type 0) (uses : ℕ) (drain : Drain W) (notes_device : Drain N) (site : Site) (rules : Rules) (agents : ℕ) (start : W) (notes later : N) (end : ServeEnd W) where
  pub no-ports : (cause : CrewCause) → HasNoPorts agents cause → WritesFault notes_device cause start [] notes later end → IsSocketServe drain notes_device may_end site rules agents uses start notes later end
  no-ports cause (inl count) noted = inl (serve-refused may_end uses drain notes_device site rules agents start notes later end count.1 (subst (λ (it : CrewCause). WritesFault notes_device it start [] notes later end) count.0 noted))
  no-ports cause (inr refused) noted = inr ((refused.1, refused.2), subst (λ (it : CrewCause). WritesFault notes_device it start [] notes later end) refused.0 noted)

-- and so of any run over a socket
pub no-ports-over : (run : List ℕ → Type 0) (nothing : CrewCause → Type 0) (agents uses : ℕ) (cause : CrewCause) → HasNoPorts agents cause → nothing cause → IsOverSocket run nothing agents uses
no-ports-over run nothing agents uses cause (inl count) noted = record {
  crew = λ crew. absurd (no_crew agents crew count.1);
  none = λ _. subst nothing count.0 noted;
}
no-ports-over run nothing agents uses cause (inr refused) noted = record {
  crew = λ _. inr (subst nothing refused.0 noted);
  none = λ few. absurd (no_crew agents (refused.1, refused.2) few);
}
