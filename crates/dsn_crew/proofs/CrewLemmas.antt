-- Crews: the results of each agent's thread, of the collector and of the poster, put together.
use Rattle.std.proofs.Common.{◌≡◌, ◌≢◌, ℕ, suc, ◌+◌, ◌<◌, ◌≤◌, ◌⊎◌, inl, inr, Bool, true, All, List, [], ◌∷◌, ◌++◌, length, map, refl, ap, sym, ◌∙◌, subst, append_assoc, length-append, arith}
use Rattle.std.specs.Prelude.{IfErr, IfOk, IfSome, Option, Some, None, Result, Ok, Err, is_none, is_some, not}
use Rattle.std.proofs.lemmas.Bool.{false≢true}
use Rattle.std.specs.declared.thread.PromisedHandle.{PromisedHandle}
use Rattle.std.specs.List.{AllZip, flat_map, slice_index_or}
use Rattle.std.proofs.lemmas.List.{append-nil, length-map}
use Rattle.std.proofs.lemmas.List.Elements.{All-head, All-nil, All-tail}
use Rattle.std.proofs.lemmas.List.Filters.{length-filter_both}
use Rattle.std.proofs.lemmas.Slice.Zip.{AllZip-long}
use Rattle.dsn_book.specs.Book.{Book, Represents}
use Rattle.dsn_book.specs.Keeper.{MayCrash, book_keeper}
use Rattle.dsn_book.specs.declared.keeper.Keeper.{Ghosts as Keeper}
use Rattle.dsn_book.specs.declared.not_kept.NotKept.{NotKept}
use Rattle.dsn_book.specs.Release.{Rules, history_under, releasing_none}
use Rattle.dsn_book.proofs.ReleaseLemmas.{under-none}
use Rattle.dsn_book.specs.Step.{letters_in}
use Rattle.dsn_device.specs.declared.drain.Drain.{Ghosts as Drain}
use Rattle.dsn_frame.specs.bodies.Spoken.{reply_of}
use Rattle.dsn_crew.specs.lane.Halves.{Half, Identity}
use Rattle.dsn_outcome.specs.Agents.{from_agent}
use Rattle.dsn_outcome.specs.History.{Limits, Exchange, answers_to, history_of, letters_after, plain, sealed_letters}
use Rattle.dsn_outcome.specs.Letter.{Letter}
use Rattle.dsn_outcome.specs.Request.{Request, Bye}
use Rattle.dsn_outcome.specs.declared.answer.Answer.{Answer}
use Rattle.dsn_outcome.specs.declared.answer.Reply.TheVariants.{Gone}
use Rattle.dsn_crew.specs.post.LetterSink.{LetterSink, TakesLetter}
use Rattle.dsn_crew.specs.inner.Posting.{IsPosted}
use Rattle.dsn_crew.specs.post.Outlet.{outbox_outlet}
use Rattle.dsn_crew.specs.declared.lane.lane_gone.LaneGone.{LaneGone}
use Rattle.dsn_crew.specs.declared.post.posted.Posted.{Posted}
use Rattle.dsn_crew.proofs.post.LetterSinkLemmas.{handed_letters}
use Rattle.dsn_crew.proofs.post.ParcelLemmas.{option_few}
use Rattle.dsn_report.specs.Outgoing.{Outgoing, begun as begun_outbox}
use Rattle.dsn_report.specs.Site.{Site}
use Rattle.dsn_crew.specs.agents.Agent.{Agent, LaneHalves, after_reply}
use Rattle.dsn_crew.specs.desk.Close.{IsHeard}
use Rattle.dsn_crew.specs.inner.Breach.{cause_of}
use Rattle.dsn_crew.specs.inner.BrokenOff.{IsCollected}
use Rattle.dsn_crew.specs.inner.Conclude.{Concludes, IsOfAgents, MayClose, account_of, broken_cause, fault_of}
use Rattle.dsn_crew.specs.Crew.{Account, AreAgentAccounts, AreSealedAfter, CrewFault, HasAccount, HasFault, IsAccount, IsAccountAfter, IsAgentAccount, IsBrokenOff, IsCrewFault, IsCrewRun, IsFaultWith, IsHandedBack, IsUnbegun, MayCrashWithin, StandsAtFault}
use Rattle.dsn_crew.specs.KeeperHistory.{AreNextOf, BeginsWith, StandsOrRefused}
use Rattle.dsn_crew.specs.desk.Desk.{Desk, IsDesk, IsRun, all_gone, history, letter_kept, missing as missing_more, agent_lanes_of}
use Rattle.dsn_crew.specs.inner.Desk.{IsStopped}
use Rattle.dsn_crew.specs.desk.Intake.{goodbyes}
use Rattle.dsn_crew.specs.inner.Gathered.{AreEnded, IsGathered}
use Rattle.dsn_crew.specs.desk.Open.{IsOpened, opened_agent}
use Rattle.dsn_crew.specs.agents.AgentLanes.{lanes_at, lanes_of}
use Rattle.dsn_crew.specs.agents.Port.{AreOverPort, Conn, Given, HasGiven, Session, answers_of, bodies_of}
use Rattle.dsn_crew.specs.inner.Agent.{IsPortServed}
use Rattle.dsn_crew.specs.agents.Serve.{after_requests, answers_from, numbered_answer, numbered_from, numbered_request, requests_from}
use Rattle.dsn_crew.specs.inner.StartServing.{AreServed, AreStarted, IsJoined, missing_threads}
use Rattle.dsn_crew.specs.declared.agents.agent_line.AgentLine.{AgentLine}
use Rattle.dsn_crew.specs.declared.breach.Breach.{Breach}
use Rattle.dsn_crew.specs.declared.breach.Breach.TheVariants as breaches
use Rattle.dsn_crew.specs.declared.broken_off.BrokenOff.{BrokenOff}
use Rattle.dsn_crew.specs.declared.crew_cause.CrewCause.{CrewCause}
use Rattle.dsn_crew.specs.declared.crew_cause.CrewCause.TheVariants as causes
use Rattle.dsn_crew.specs.declared.desk.desk_fault.DeskFault.{DeskFault}
use Rattle.dsn_crew.specs.declared.gathered.Gathered.{Gathered}
use Rattle.dsn_crew.specs.declared.agents.port.Port.{Ghosts as Port}
use Rattle.dsn_crew.specs.declared.post.outlet.Outlet.{Ghosts as Outlet}
use Rattle.dsn_crew.specs.inner.PortEnd.{PortEnd}
use Rattle.dsn_crew.specs.declared.start_serving.Serves.{Serves}
use Rattle.dsn_crew.proofs.agents.ServeLemmas.{numbered-length}
use Rattle.dsn_crew.proofs.desk.CloseLemmas.{going_on}
use Rattle.dsn_crew.proofs.desk.CrashLemmas.{LeavesKept, none_done}
use Rattle.dsn_crew.proofs.lane.AgentLemmas.{numbered_none}
use Rattle.dsn_crew.proofs.desk.TakeLemmas.{has_here, none_behind}
use Rattle.dsn_crew.proofs.StartServingLemmas.{are-served, starts-length}

-- ---- one agent

-- an agent at the end of its service, and after its goodbye
abbrev pub last_halves : Agent → List Session → Bool → LaneHalves
last_halves agent sessions lost = after_reply (after_requests agent (bodies_of sessions) (flat_map reply_of (answers_of sessions)) lost).halves Bye (plain Gone)

module _ (rules : Rules) (lane : Identity Request) (half : Half Answer) (conns : Option (List Conn)) (may_give : List Given → Type 0) (line : AgentLine) (halves : LaneHalves) (is : IsPortServed conns may_give (opened_agent rules.limits.requests lane half) (record { line = line; finished = Some halves })) where
  abbrev sessions : List Session
  sessions = is.served.sessions

  halves_are : halves ≡ last_halves (opened_agent rules.limits.requests lane half) sessions is.served.lost
  halves_are = is.goodbye.1 ∙ ap (λ (agent : Agent). after_reply agent.halves Bye (plain Gone)) is.served.asked.agent_is

  -- it has the place at which it was opened
  pub same_place : lanes_of halves ≡ lanes_at lane half
  same_place = ap lanes_of halves_are

  asked : line.requests ≡ length (bodies_of sessions)
  unfolding numbered_from
  asked = is.served.requests ∙ (ap (λ (agent : Agent). length agent.halves.requests.sent) is.served.asked.agent_is ∙ numbered-length (numbered_request half.agent) 0 (bodies_of sessions))

  last_number : length (after_requests (opened_agent rules.limits.requests lane half) (bodies_of sessions) (flat_map reply_of (answers_of sessions)) is.served.lost).halves.requests.sent ≡ line.requests
  last_number = ap (λ (agent : Agent). length agent.halves.requests.sent) (sym is.served.asked.agent_is) ∙ sym is.served.requests

  -- if it was heard to its end, this is its account
  pub agent_account : {B : Type 0} (keeper : Keeper B) (before : List Exchange) (desk : Desk B) (agent : ℕ) → keeper.rules desk.start ≡ rules → half.agent ≡ agent → IsHeard keeper before desk halves → IsAgentAccount conns may_give rules before desk.requests.taken agent line halves
  agent_account keeper before desk agent rules_are number heard =
      let here : halves.requests.agent ≡ agent = ap (λ (e : LaneHalves). e.requests.agent) halves_are ∙ number in record {
        number = here;
        taken_all = ap (λ (a : ℕ). from_agent (λ (request : Request). request.agent) a desk.requests.taken) (sym here) ∙ heard.taken;
        answered = heard.got ∙ (λ i. answers_to (here i) (history_under (rules_are i) before desk.requests.taken));
        sessions = sessions;
        follow = is.served.follow;
        over = subst (λ (lost : Bool). AreOverPort conns sessions lost line.port_failed) is.goodbye.0 is.served.over;
        gave = subst (HasGiven may_give line) is.goodbye.0 is.served.gave;
        heard = is.served.heard is.goodbye.0;
        sent = ap (λ (e : LaneHalves). e.requests.sent) halves_are ∙ (λ i. requests_from (number i) 0 (bodies_of sessions) ++ numbered_request (number i) (last_number i) Bye ∷ []);
        got = ap (λ (e : LaneHalves). e.answers.taken) halves_are ∙ (λ i. answers_from (number i) 0 (flat_map reply_of (answers_of sessions)) ++ numbered_answer (number i) (last_number i) (plain Gone) ∷ []);
        requests = asked;
        connections = is.served.connections;
        faults = is.served.faults;
        few = is.served.few;
      }

-- ---- all agents

-- agents that are numbered from one on
abbrev pub AreFrom : ℕ → List (Half Answer) → Type 0
AreFrom agent [] = Unit {0}
AreFrom agent (half ∷ halves) = (half.agent ≡ agent) × AreFrom (suc agent) halves

are_from : (agent : ℕ) (halves : List (Half Answer)) → ((a : ℕ) (d : Half Answer) → a < length halves → (slice_index_or halves a d).agent ≡ agent + a) → AreFrom agent halves
are_from agent [] lines = tt
are_from agent (half ∷ halves) lines = (
  lines 0 half (omega arith) ∙ (let same : agent + 0 ≡ agent = omega arith in same),
  are_from (suc agent) halves (λ a d inside. lines (suc a) d (omega (arith, inside)) ∙ (let same : agent + suc a ≡ suc agent + a = omega arith in same)),
)

module _ {P S : Type 0} (port : Port P S) (rules : Rules) (lane : Identity Request) where
  abbrev pub Serve : List (Half Answer) → List P → List (Option PortEnd) → Type 0
  Serve answers ports ends = AreServed port (map (opened_agent rules.limits.requests lane) answers) ports ends

  -- they have the places at which they were opened
  pub same_places : (answers : List (Half Answer)) (ports : List P) (ends : List (Option PortEnd)) (lines : List AgentLine) (crew : List LaneHalves) → Serve answers ports ends → AreEnded ends lines crew → map lanes_of crew ≡ map (lanes_at lane) answers
  same_places [] [] [] [] [] served ended = refl
  same_places [] [] [] [] (agent ∷ crew) served ended = absurd ended
  same_places [] [] [] (line ∷ lines) crew served ended = absurd ended
  same_places [] [] (end ∷ ends) lines crew served ended = absurd served
  same_places [] (one ∷ ports) ends lines crew served ended = absurd served
  same_places (answer ∷ answers) [] ends lines crew served ended = absurd served
  same_places (answer ∷ answers) (one ∷ ports) [] lines crew served ended = absurd served
  same_places (answer ∷ answers) (one ∷ ports) (end ∷ ends) [] crew served ended = absurd ended
  same_places (answer ∷ answers) (one ∷ ports) (end ∷ ends) (line ∷ lines) [] served ended = absurd ended
  same_places (answer ∷ answers) (one ∷ ports) (end ∷ ends) (line ∷ lines) (agent ∷ crew) served ended =
      let here = subst (λ (e : Option PortEnd). IfSome e (IsPortServed (port.conns one) (port.may_give one) (opened_agent rules.limits.requests lane answer))) ended.0 served.0 in
      λ i. same_place rules lane answer (port.conns one) (port.may_give one) line agent here i ∷ same_places answers ports ends lines crew served.1 ended.1 i

  -- if each was heard to its end, these are their accounts
  pub agent_accounts : {B : Type 0} (keeper : Keeper B) (before : List Exchange) (desk : Desk B) → keeper.rules desk.start ≡ rules → (agent : ℕ) (answers : List (Half Answer)) (ports : List P) (ends : List (Option PortEnd)) (lines : List AgentLine) (crew : List LaneHalves) → AreFrom agent answers → Serve answers ports ends → AreEnded ends lines crew → All (IsHeard keeper before desk) crew → AreAgentAccounts port rules before desk.requests.taken agent ports lines crew
  agent_accounts keeper before desk is agent [] [] [] [] [] from served ended heard = tt
  agent_accounts keeper before desk is agent [] [] [] [] (one ∷ crew) from served ended heard = absurd ended
  agent_accounts keeper before desk is agent [] [] [] (line ∷ lines) crew from served ended heard = absurd ended
  agent_accounts keeper before desk is agent [] [] (end ∷ ends) lines crew from served ended heard = absurd served
  agent_accounts keeper before desk is agent [] (one ∷ ports) ends lines crew from served ended heard = absurd served
  agent_accounts keeper before desk is agent (answer ∷ answers) [] ends lines crew from served ended heard = absurd served
  agent_accounts keeper before desk is agent (answer ∷ answers) (one ∷ ports) [] lines crew from served ended heard = absurd served
  agent_accounts keeper before desk is agent (answer ∷ answers) (one ∷ ports) (end ∷ ends) [] crew from served ended heard = absurd ended
  agent_accounts keeper before desk is agent (answer ∷ answers) (one ∷ ports) (end ∷ ends) (line ∷ lines) [] from served ended heard = absurd ended
  agent_accounts keeper before desk is agent (answer ∷ answers) (one ∷ ports) (end ∷ ends) (line ∷ lines) (last ∷ crew) from served ended heard =
      let here = subst (λ (e : Option PortEnd). IfSome e (IsPortServed (port.conns one) (port.may_give one) (opened_agent rules.limits.requests lane answer))) ended.0 served.0 in (
        agent_account rules lane answer (port.conns one) (port.may_give one) line last here keeper before desk agent is from.0 (All-head (IsHeard keeper before desk) last crew heard),
        agent_accounts keeper before desk is (suc agent) answers ports ends lines crew from.1 served.1 ended.1 (All-tail (IsHeard keeper before desk) last crew heard),
      )

-- ---- the letters

none_taken : (rules : Rules) (before : List Exchange) (requests : List Request) → requests ≡ [] → sealed_letters (history_under rules before requests) ≡ sealed_letters before
none_taken rules before requests none = ap (λ (q : List Request). sealed_letters (history_under rules before q)) none ∙ ap sealed_letters (under-none rules before)

-- the letters of the run are those that the sink took, and then the one that the collector held
pub run_letters : {B : Type 0} (keeper : Keeper B) (before : List Exchange) (old new : Desk B) (sink after : LetterSink) (result : Result (Unit {0}) DeskFault) → IsRun keeper before TakesLetter old new sink after result → old.requests.taken ≡ [] → sink.letters ≡ []
    → (sealed_letters (history keeper before new) ≡ sealed_letters before ++ (after.letters ++ letter_kept result)) × (after.lane ≡ sink.lane)
run_letters keeper before old new sink after result run none no_sent =
    let took = handed_letters sink after run.handed run.sink_is in
    let letters : after.letters ≡ run.handed = took.0 ∙ ap (λ (ls : List Letter). ls ++ run.handed) no_sent in (
      run.letters ∙ (λ i. none_taken (keeper.rules old.start) before old.requests.taken none i ++ (sym letters i ++ letter_kept result)),
      took.1,
    )

-- a collector has failed since a lane was lost, or as its keeper refused a request
abbrev pub IsStopCause : {B : Type 0} → Desk B → CrewCause → Type 0
IsStopCause desk cause = ((cause ≡ causes.Lost) × (desk.unkept ≡ None)) ⊎ ((why : NotKept) × (cause ≡ causes.Unkept why) × (desk.unkept ≡ Some why))

stopped_for : {B : Type 0} (keeper : Keeper B) (desk : Desk B) (breach : Breach) → IsStopped keeper desk breach → IsStopCause desk (cause_of breach)
stopped_for keeper desk (breaches.AgentGone gone) is = inl (refl, is)
stopped_for keeper desk (breaches.HandedBack back) is = inl (refl, is)
stopped_for keeper desk breaches.Full is = inl (refl, is.0)
stopped_for keeper desk (breaches.Unkept why) is = inr (why, refl, is.unkept)
stopped_for keeper desk (breaches.CollectorGone gone) is = absurd is
stopped_for keeper desk (breaches.Unheard unheard) is = absurd is
stopped_for keeper desk breaches.Refused is = absurd is
stopped_for keeper desk breaches.PortCount is = absurd is

module _ {B O L : Type 0} (keeper : Keeper B) (outlet : Outlet O L) (start : O) (first : List Letter) (given : O) (by : outlet.posted start first given) (sent : List Letter) (posted : Posted L) (is : IsPosted outlet given (outlet.room given) sent posted) (desk : Desk B) (kept : IsDesk keeper desk) (agents : ℕ) (lines : length desk.answers ≡ agents) where
  -- what is left of a run in which these letters were sealed
  abbrev broken_off : (cause : CrewCause) (book : B) (held : List Letter) → length held ≤ 1 → (sealed : List Letter) → sealed ≡ sent ++ held → IsBrokenOff outlet start first given sealed agents (fault_of cause held book desk posted)
  broken_off cause book held one sealed sealed_is = record {
    only = subst (λ (k : ℕ). All (λ (request : Request). request.agent < k) desk.requests.taken) lines kept.mine;
    numbered = kept.numbered;
    together = kept.together;
    next = subst (λ (k : ℕ). AreNextOf k desk.requests.taken desk.behind) lines kept.next;
    letters = is.letters;
    between = is.came.0;
    held = held;
    sealed_are = sealed_is ∙ (ap (λ (ls : List Letter). ls ++ held) (sym is.came.1) ∙ append_assoc is.letters is.came.0 held);
    few = (let few = is.few in let split = sym (ap length is.came.1) ∙ length-append is.letters is.came.0 in omega arith);
    one = one;
    whole = posted.end.whole;
    unsent = posted.end.unsent;
    unsent_are = refl;
    outbox = is.ended start first by;
    handed_back = refl;
  }

  -- a collector that failed, for this reason
  stopped_is : (cause : CrewCause) (book : B) (held : Option Letter) → IsStopCause desk cause → IsFaultWith outlet start first given (sent ++ letters_in held) agents (fault_of cause (letters_in held) book desk posted) cause
  stopped_is cause book held (inl lost) =
      subst (λ (it : CrewCause). IsFaultWith outlet start first given (sent ++ letters_in held) agents (fault_of it (letters_in held) book desk posted) it) (sym lost.0) (broken_off causes.Lost book (letters_in held) (option_few held) (sent ++ letters_in held) refl)
  stopped_is cause book held (inr unkept) =
      subst (λ (it : CrewCause). IsFaultWith outlet start first given (sent ++ letters_in held) agents (fault_of it (letters_in held) book desk posted) it) (sym unkept.1) (broken_off (causes.Unkept unkept.0) book (letters_in held) (option_few held) (sent ++ letters_in held) refl)

  pub failed_fault : (fault : CrewFault L B) (breach : Breach) (book : B) (held : Option Letter) → IsStopped keeper desk breach → fault ≡ fault_of (cause_of breach) (letters_in held) book desk posted → IsFaultWith outlet start first given (sent ++ letters_in held) agents fault fault.cause
  failed_fault fault breach book held is fault_is =
      subst (λ (it : CrewFault L B). IsFaultWith outlet start first given (sent ++ letters_in held) agents it it.cause) (sym fault_is) (stopped_is (cause_of breach) book held (stopped_for keeper desk breach is))

  -- a collector that ended well, in a run that was broken off
  broken_is : (cause : CrewCause) → (cause ≡ causes.Lost) ⊎ ((cause ≡ causes.Refused) × (posted.lost ≡ None)) → desk.behind ≡ [] → IsFaultWith outlet start first given sent agents (fault_of cause [] desk.book desk posted) cause
  broken_is cause (inl lost) none = subst (λ (it : CrewCause). IsFaultWith outlet start first given sent agents (fault_of it [] desk.book desk posted) it) (sym lost) (broken_off causes.Lost desk.book [] (omega arith) sent (sym (append-nil sent)))
  broken_is cause (inr refused) none =
      subst (λ (it : CrewCause). IsFaultWith outlet start first given sent agents (fault_of it [] desk.book desk posted) it) (sym refused.0)
      (inr (broken_off causes.Refused desk.book [] (omega arith) sent (sym (append-nil sent)), (is.whole.0 refused.1).1, none))

  pub broken_fault : (fault : CrewFault L B) (cause : CrewCause) → (cause ≡ causes.Lost) ⊎ ((cause ≡ causes.Refused) × (posted.lost ≡ None)) → fault ≡ fault_of cause [] desk.book desk posted → desk.behind ≡ [] → IsFaultWith outlet start first given sent agents fault fault.cause
  broken_fault fault cause why fault_is none =
      subst (λ (it : CrewFault L B). IsFaultWith outlet start first given sent agents it it.cause) (sym fault_is) (broken_is cause why none)

-- a run that never began, with what it was given
abbrev pub never_begun_with : {B W : Type 0} → CrewCause → W → B → CrewFault W B
never_begun_with cause outbox book = record { cause = cause; outbox = outbox; unsent = []; book = Some book; taken = []; behind = [] }

-- the keeper that a run was given models what the run did, if it never began
given_back : {B : Type 0} (keeper : Keeper B) (before : List Exchange) (book : B) (cause : CrewCause) → (stands : StandsAtFault keeper [] before cause book) → IsHandedBack keeper (keeper.rules book) [] (history_under (keeper.rules book) before []) cause book
given_back keeper before book cause stands = record { rules_are = refl; stands = subst (λ (t : List Exchange). StandsAtFault keeper [] t cause book) (sym (under-none (keeper.rules book) before)) stands }

-- a run that never began sealed nothing, and returns the keeper that it was given
never_sealed : {B O L : Type 0} (keeper : Keeper B) (outlet : Outlet O L) (start : O) (first : List Letter) (given : O) (before : List Exchange) (agents : ℕ) (book : B) (left : L) (cause : CrewCause) → StandsAtFault keeper [] before cause book → IsFaultWith outlet start first given [] agents (never_begun_with cause left book) cause
    → HasFault keeper outlet start first given (keeper.rules book) before agents (never_begun_with cause left book)
never_sealed keeper outlet start first given before agents book left cause stands is = record {
  sealed = [];
  are = record { are = none_taken (keeper.rules book) before [] refl ∙ sym (append-nil (sealed_letters before)) };
  is = is;
  book = given_back keeper before book cause stands;
}

unbegun : {B O L : Type 0} (outlet : Outlet O L) (given : O) (cause : CrewCause) (left : L) (book : B) → outlet.untouched given left → IsUnbegun outlet given (never_begun_with cause left book)
unbegun outlet given cause left book is = record { taken = refl; behind = refl; unsent = refl; outbox = is }

pub never_counted : {B O L : Type 0} (keeper : Keeper B) (outlet : Outlet O L) (start : O) (first : List Letter) (given : O) (before : List Exchange) (agents : ℕ) (book : B) (left : L) (fault : CrewFault L B) → keeper.has book before [] → outlet.untouched given left → fault ≡ never_begun_with causes.PortCount left book
    → HasFault keeper outlet start first given (keeper.rules book) before agents fault
never_counted keeper outlet start first given before agents book left fault has back is =
    subst (HasFault keeper outlet start first given (keeper.rules book) before agents) (sym is)
    (never_sealed keeper outlet start first given before agents book left causes.PortCount has (unbegun outlet given causes.PortCount left book back))

pub never_begun : {B O L : Type 0} (keeper : Keeper B) (outlet : Outlet O L) (start : O) (first : List Letter) (given : O) (before : List Exchange) (agents : ℕ) (book : B) (left : L) (fault : CrewFault L B) → keeper.has book before [] → outlet.untouched given left → fault ≡ never_begun_with causes.Refused left book
    → HasFault keeper outlet start first given (keeper.rules book) before agents fault
never_begun keeper outlet start first given before agents book left fault has back is =
    subst (HasFault keeper outlet start first given (keeper.rules book) before agents) (sym is)
    (never_sealed keeper outlet start first given before agents book left causes.Refused has (inl (unbegun outlet given causes.Refused left book back)))

-- and a crash leaves what it might have left before
never_crashed : {B W : Type 0} (keeper : Keeper B) (before : List Exchange) (agents : ℕ) (cause : CrewCause) (outbox : W) (book : B) (fault : CrewFault W B) → LeavesKept keeper → keeper.has book before [] → fault ≡ never_begun_with cause outbox book → IfSome fault.book (MayCrashWithin keeper book (keeper.rules book) before agents fault.taken fault.behind)
never_crashed keeper before agents cause outbox book fault law has is =
    subst (λ (it : CrewFault _ _). IfSome it.book (MayCrashWithin keeper book (keeper.rules book) before agents it.taken it.behind)) (sym is)
    (record {
      together = omega arith;
      next = record { from = All-nil (λ (request : Request). request.agent < agents); numbered = λ agent. numbered_none (λ (request : Request). request.number) };
      at_each_moment = none_done keeper book book book (keeper.rules book) before [] law refl has;
    })

never_more : {B W : Type 0} (keeper : Keeper B) (cause : CrewCause) (outbox : W) (book : B) (fault : CrewFault W B) → fault ≡ never_begun_with cause outbox book → IfSome fault.book (λ left. keeper.sealed left ≤ keeper.sealed book + length fault.taken)
never_more keeper cause outbox book fault is = subst (λ (it : CrewFault _ _). IfSome it.book (λ left. keeper.sealed left ≤ keeper.sealed book + length it.taken)) (sym is) (omega arith)

-- the run that it was
pub never_ran : {B P S O L : Type 0} (keeper : Keeper B) (port : Port P S) (outlet : Outlet O L) (book : B) (ports : List P) (given : O) (cause : CrewCause) (left : L) (fault : CrewFault L B) → LeavesKept keeper → fault ≡ never_begun_with cause left book
    → ((start : O) (first : List Letter) → outlet.posted start first given → (before : List Exchange) → BeginsWith keeper book before → HasFault keeper outlet start first given (keeper.rules book) before (length ports) fault)
    → IsCrewRun keeper port outlet book ports given (Err fault)
never_ran keeper port outlet book ports given cause left fault law is has = record {
  account = λ start first by before with_it. tt;
  sealed = tt;
  fault = has;
  left = never_more keeper cause left book fault is;
  crash = λ before with_it. tt;
  crash_at_fault = λ before with_it. never_crashed keeper before (length ports) cause left book fault law with_it.0 is;
  handed_back = ap (λ (it : CrewFault _ _). is_some it.book) is;
}

-- ---- a book alone

-- all letters of a history are those that were sealed after none
all_of_none : (history : List Exchange) (letters : List Letter) → AreSealedAfter [] history letters → letters ≡ sealed_letters history
unfolding letters_after
all_of_none history letters sealed = sym sealed.are

pub book_account : {P S W : Type 0} (port : Port P S) (drain : Drain W) (site : Site) (limits of_book : Limits) (ports : List P) (start : W) (result : Result (Account W Book) (CrewFault W Book)) → of_book ≡ limits → IfOk result (HasAccount book_keeper port (outbox_outlet drain) (begun_outbox site start) [] (releasing_none of_book) [] ports) → IfOk result (IsAccount port drain site limits ports start)
book_account port drain site limits of_book ports start (Err fault) same has = tt
book_account port drain site limits of_book ports start (Ok account) same has =
    subst (λ (l : Limits). IsAccount port drain site l ports start account) same
    (subst (λ (letters : List Letter). IsAccountAfter book_keeper port (outbox_outlet drain) (begun_outbox site start) [] (releasing_none of_book) [] letters ports account) (all_of_none _ _ has.sealed) has.is)

pub book_fault : {W : Type 0} (drain : Drain W) (site : Site) (limits of_book : Limits) (agents : ℕ) (start : W) (given : Outgoing W) (result : Result (Account W Book) (CrewFault W Book)) → given ≡ begun_outbox site start → of_book ≡ limits → IfErr result (HasFault book_keeper (outbox_outlet drain) (begun_outbox site start) [] given (releasing_none of_book) [] agents)
    → IfErr result (λ fault. IsCrewFault drain site limits agents start fault fault.cause)
book_fault drain site limits of_book agents start given (Ok account) new same has = tt
book_fault drain site limits of_book agents start given (Err fault) new same has =
    let is = subst (λ (it : Outgoing _). IsFaultWith (outbox_outlet drain) (begun_outbox site start) [] it has.sealed agents fault fault.cause) new has.is in
    subst (λ (l : Limits). IsCrewFault drain site l agents start fault fault.cause) same
    (subst (λ (letters : List Letter). IsFaultWith (outbox_outlet drain) (begun_outbox site start) [] (begun_outbox site start) letters agents fault fault.cause) (all_of_none _ _ has.are) is)

-- a keeper that refuses nothing, as a book does
module _ {B : Type 0} (keeper : Keeper B) (refuses_none : (was : B) (requests : List Request) (why : NotKept) (left : B) → keeper.refuses was requests why left → ⊥) where
  unkept_never : (rules : Rules) (behind : List Request) (exchanges : List Exchange) (why : NotKept) (book : Option B) → is_some book ≡ true → IfSome book (IsHandedBack keeper rules behind exchanges (causes.Unkept why)) → ⊥
  unkept_never rules behind exchanges why None some handed = absurd (false≢true some)
  unkept_never rules behind exchanges why (Some book) some handed = refuses_none handed.stands.0 behind why book handed.stands.2

  pub kept_always : {O L : Type 0} (outlet : Outlet O L) (start : O) (first : List Letter) (given : O) (rules : Rules) (agents : ℕ) (result : Result (Account L B) (CrewFault L B)) → IfErr result (HasFault keeper outlet start first given rules [] agents) → IfErr result (λ fault. (why : NotKept) → fault.cause ≢ causes.Unkept why)
  kept_always outlet start first given rules agents (Ok account) has = tt
  kept_always outlet start first given rules agents (Err fault) has = λ why same.
      let broken : IsBrokenOff outlet start first given has.sealed agents fault = subst (IsFaultWith outlet start first given has.sealed agents fault) same has.is in
      unkept_never rules fault.behind (history_under rules [] fault.taken) why fault.book broken.handed_back
      (subst (λ (cause : CrewCause). IfSome fault.book (IsHandedBack keeper rules fault.behind (history_under rules [] fault.taken) cause)) same has.book)

-- so it models what was taken
stood_book : (rules : Rules) (behind : List Request) (exchanges : List Exchange) (cause : CrewCause) (book : Book) → IsHandedBack book_keeper rules behind exchanges cause book → Represents book exchanges
stood_book rules behind exchanges causes.Lost book handed = handed.stands
stood_book rules behind exchanges causes.Refused book handed = handed.stands
stood_book rules behind exchanges causes.PortCount book handed = handed.stands
stood_book rules behind exchanges (causes.Unkept why) book handed = absurd handed.stands.2

left_book : (limits : Limits) (behind : List Request) (exchanges : List Exchange) (cause : CrewCause) (book : Option Book) → IfSome book (IsHandedBack book_keeper (releasing_none limits) behind exchanges cause) → IfSome book (λ it. (it.limits ≡ limits) × Represents it exchanges)
left_book limits behind exchanges cause None handed = tt
left_book limits behind exchanges cause (Some book) handed = (ap (λ (rules : Rules). rules.limits) handed.rules_are, stood_book (releasing_none limits) behind exchanges cause book handed)

pub book_left : {W : Type 0} (drain : Drain W) (site : Site) (limits of_book : Limits) (agents : ℕ) (start : W) (given : Outgoing W) (result : Result (Account W Book) (CrewFault W Book)) → of_book ≡ limits → IfErr result (HasFault book_keeper (outbox_outlet drain) (begun_outbox site start) [] given (releasing_none of_book) [] agents)
    → IfErr result (λ fault. IfSome fault.book (λ book. (book.limits ≡ limits) × Represents book (history_of limits fault.taken)))
book_left drain site limits of_book agents start given (Ok account) same has = tt
book_left drain site limits of_book agents start given (Err fault) same has =
    subst (λ (l : Limits). IfSome fault.book (λ book. (book.limits ≡ l) × Represents book (history_of l fault.taken))) same
    (left_book of_book fault.behind (history_under (releasing_none of_book) [] fault.taken) fault.cause fault.book has.book)

-- ---- why a run was broken off

-- What broke off a run whose collector ended well. A lane was lost; or the thread of an agent could
-- not be made, and all letters reached the poster
abbrev pub IsBrokenFor : {B W : Type 0} → Desk B → Posted W → CrewFault W B → CrewCause → Type 0
IsBrokenFor desk posted fault cause = (fault ≡ fault_of cause [] desk.book desk posted) × ((cause ≡ causes.Lost) ⊎ ((cause ≡ causes.Refused) × (posted.lost ≡ None)))

-- the agents' results show it, whatever the collector's result is
gathered_for : {B : Type 0} (keeper : Keeper B) (ends : List (Option PortEnd)) (breach : Breach) → IsGathered ends (Err breach) → IsOfAgents keeper breach × ((cause_of breach ≡ causes.Lost) ⊎ (cause_of breach ≡ causes.Refused))
gathered_for keeper ends (breaches.Unheard unheard) is = (λ desk. tt, inl refl)
gathered_for keeper ends breaches.Refused is = (λ desk. tt, inr refl)
gathered_for keeper ends (breaches.AgentGone gone) is = absurd is
gathered_for keeper ends (breaches.CollectorGone gone) is = absurd is
gathered_for keeper ends (breaches.HandedBack back) is = absurd is
gathered_for keeper ends breaches.Full is = absurd is
gathered_for keeper ends (breaches.Unkept why) is = absurd is
gathered_for keeper ends breaches.PortCount is = absurd is

cause_found : (lost : Option LaneGone) (breach : Breach) → (cause_of breach ≡ causes.Lost) ⊎ (cause_of breach ≡ causes.Refused) → (broken_cause lost breach ≡ causes.Lost) ⊎ ((broken_cause lost breach ≡ causes.Refused) × (lost ≡ None))
cause_found (Some gone) breach why = inl refl
cause_found None breach (inl lost) = inl lost
cause_found None breach (inr refused) = inr (refused, refl)

broken_for : {B W : Type 0} (keeper : Keeper B) (ends : List (Option PortEnd)) (desk : Desk B) (all : Result Gathered Breach) (posted : Posted W) (fault : CrewFault W B) → IsGathered ends all → Concludes keeper (Ok desk) all posted (Err fault) → (cause : CrewCause) × IsBrokenFor desk posted fault cause
broken_for keeper ends desk (Ok gathered) posted fault is faulted = (causes.Lost, (faulted.1, inl refl))
broken_for keeper ends desk (Err breach) posted fault is faulted = (broken_cause posted.lost breach, (faulted, cause_found posted.lost breach (gathered_for keeper ends breach is).1))

-- no crew that began is refused since its ports are too few or too many
lost≢count : causes.Lost ≢ causes.PortCount
lost≢count same = let never : causes.Lost ≡ causes.PortCount = same in cc

refused≢count : causes.Refused ≢ causes.PortCount
refused≢count same = let never : causes.Refused ≡ causes.PortCount = same in cc

unkept≢count : (why : NotKept) → causes.Unkept why ≢ causes.PortCount
unkept≢count why same = let never : causes.Unkept why ≡ causes.PortCount = same in cc

stopped≢count : {B : Type 0} (desk : Desk B) (cause : CrewCause) → IsStopCause desk cause → cause ≢ causes.PortCount
stopped≢count desk cause (inl lost) = λ same. lost≢count (sym lost.0 ∙ same)
stopped≢count desk cause (inr unkept) = λ same. unkept≢count unkept.0 (sym unkept.1 ∙ same)

broken≢count : {B W : Type 0} (desk : Desk B) (posted : Posted W) (fault : CrewFault W B) (cause : CrewCause) → IsBrokenFor desk posted fault cause → fault.cause ≢ causes.PortCount
broken≢count desk posted fault cause (is, inl lost) = λ same. lost≢count (sym lost ∙ (sym (ap (λ (it : CrewFault _ _). it.cause) is) ∙ same))
broken≢count desk posted fault cause (is, inr refused) = λ same. refused≢count (sym refused.0 ∙ (sym (ap (λ (it : CrewFault _ _). it.cause) is) ∙ same))

pub no_count : {B W : Type 0} (keeper : Keeper B) (ends : List (Option PortEnd)) (collected : Result (Desk B) (BrokenOff B)) (all : Result Gathered Breach) (posted : Posted W) (result : Result (Account W B) (CrewFault W B)) → MayClose keeper collected all → IsGathered ends all → Concludes keeper collected all posted result → IfErr result (λ fault. fault.cause ≢ causes.PortCount)
no_count keeper ends collected all posted (Ok account) may is ends_so = tt
no_count keeper ends (Ok new) all posted (Err fault) may is faulted = let why = broken_for keeper ends new all posted fault is faulted in broken≢count new posted fault why.0 why.1
no_count keeper ends (Err broken) all posted (Err fault) may is faulted = λ same. stopped≢count broken.desk.value (cause_of broken.breach) (stopped_for keeper broken.desk.value broken.breach may) (sym (ap (λ it. it.cause) faulted) ∙ same)

-- ---- the keeper that is returned

module _ {B : Type 0} (keeper : Keeper B) (desk : Desk B) (exchanges : List Exchange) where
  -- if a collector has failed, for this reason
  pub stopped_stands : (cause : CrewCause) → IsStopCause desk cause → StandsOrRefused keeper desk.unkept desk.behind exchanges desk.book → StandsAtFault keeper desk.behind exchanges cause desk.book
  stopped_stands cause (inl lost) stands = subst (λ (it : CrewCause). StandsAtFault keeper desk.behind exchanges it desk.book) (sym lost.0) (subst (λ (u : Option NotKept). StandsOrRefused keeper u desk.behind exchanges desk.book) lost.1 stands)
  stopped_stands cause (inr unkept) stands = subst (λ (it : CrewCause). StandsAtFault keeper desk.behind exchanges it desk.book) (sym unkept.1) (subst (λ (u : Option NotKept). StandsOrRefused keeper u desk.behind exchanges desk.book) unkept.2 stands)

  -- and if it has not
  pub broken_stands : (cause : CrewCause) (Q : Type 0) → (cause ≡ causes.Lost) ⊎ ((cause ≡ causes.Refused) × Q) → keeper.has desk.book exchanges desk.behind → StandsAtFault keeper desk.behind exchanges cause desk.book
  broken_stands cause Q (inl lost) has = subst (λ (it : CrewCause). StandsAtFault keeper desk.behind exchanges it desk.book) (sym lost) has
  broken_stands cause Q (inr refused) has = subst (λ (it : CrewCause). StandsAtFault keeper desk.behind exchanges it desk.book) (sym refused.0) has

-- ---- the whole

module _ {B P S : Type 0} (keeper : Keeper B) (port : Port P S) (book : B) (ports : List P) (count : ℕ) (agents : List Agent) (desk : Desk B) (opened : IsOpened keeper book count agents desk) (count_is : count ≡ length ports) (handles : List (Option (PromisedHandle PortEnd (Serves P)))) (started : AreStarted agents ports handles) where
  abbrev rules : Rules
  rules = keeper.rules book

  pub handles_length : length handles ≡ count
  handles_length = starts-length agents ports handles started ∙ (ap length opened.crew_is ∙ (length-map desk.answers (opened_agent rules.limits.requests desk.requests.lane) ∙ opened.count))

  -- no more agents are missed than there are
  pub missing_few : missing_threads handles ≤ count
  missing_few = let most = length-filter_both is_none (λ (handle : Option (PromisedHandle PortEnd (Serves P))). not (is_none handle)) (λ handle. refl) handles in let long = handles_length in omega arith

  pub may_miss : goodbyes desk.requests.taken + desk.missed + missing_threads handles ≤ length desk.answers
  may_miss =
      let none = ap goodbyes opened.taken.0 in
      let few = missing_few in
      let missed = opened.missed in
      let all = opened.count in omega arith

  module _ (ends : List (Option PortEnd)) (joined : AllZip (IsJoined port) handles ends) where
    pub ends_length : length ends ≡ count
    ends_length = AllZip-long (IsJoined port) handles ends joined ∙ handles_length

    served : AreServed port (map (opened_agent rules.limits.requests desk.requests.lane) desk.answers) ports ends
    served = subst (λ (crew : List Agent). AreServed port crew ports ends) opened.crew_is (are-served port agents ports handles ends started joined)

    module _ (missed : ℕ) (begun : Desk B) (begun_is : begun ≡ missing_more desk missed) where
      -- the collector began with what it was given
      start_is : begun.start ≡ book
      start_is = ap (λ (d : Desk B). d.start) begun_is ∙ opened.start_is

      pub begins : (before : List Exchange) → BeginsWith keeper book before → BeginsWith keeper begun.start before
      begins before is = subst (λ (b : B). BeginsWith keeper b before) (sym start_is) is

      module _ (sink after : LetterSink) (fresh : sink.letters ≡ []) (before : List Exchange) where
        pub collected_lane : (collected : Result (Desk B) (BrokenOff B)) → IsCollected keeper before begun sink after collected → after.lane ≡ sink.lane
        collected_lane (Ok new) has = (run_letters keeper before begun new sink after (Ok tt) has.0 (ap (λ (d : Desk B). d.requests.taken) begun_is ∙ opened.taken.0) fresh).1
        collected_lane (Err broken) has = (run_letters keeper before begun broken.desk.value sink after (Err has.0) has.1 (ap (λ (d : Desk B). d.requests.taken) begun_is ∙ opened.taken.0) fresh).1

        pub may_close : (collected : Result (Desk B) (BrokenOff B)) (all : Result Gathered Breach) → IsCollected keeper before begun sink after collected → IsGathered ends all → MayClose keeper collected all
        may_close (Ok new) (Ok gathered) has is = (
          same_places port rules desk.requests.lane desk.answers ports ends gathered.lines.items gathered.agents.items served is
              ∙ (sym (ap agent_lanes_of begun_is) ∙ sym has.0.places),
          has.1,
        )
        may_close (Ok new) (Err breach) has is = (gathered_for keeper ends breach is).0
        may_close (Err broken) all has is = has.4

        -- each request seals one letter at most
        sealed_few : {W : Type 0} (collected : Result (Desk B) (BrokenOff B)) (all : Result Gathered Breach) (posted : Posted W) (result : Result (Account W B) (CrewFault W B)) → IsCollected keeper before begun sink after collected → Concludes keeper collected all posted result → IfOk result (λ account. keeper.sealed account.book ≤ keeper.sealed book + length account.taken)
        sealed_few collected all posted (Err fault) has ends_so = tt
        sealed_few (Ok new) (Ok gathered) posted (Ok account) has closed =
            subst (λ (it : Account _ B). keeper.sealed it.book ≤ keeper.sealed book + length it.taken) (sym closed.account_is)
            (subst (λ (b : B). keeper.sealed new.book ≤ keeper.sealed b + length new.requests.taken) (has.0.start ∙ start_is) has.2.sealed)
        sealed_few (Ok new) (Err breach) posted (Ok account) has closed = absurd closed
        sealed_few (Err broken) all posted (Ok account) has closed = absurd closed

        -- the keeper that is returned sealed no more letters than requests were taken
        few_of : {W : Type 0} (cause : CrewCause) (held : List Letter) (new : Desk B) (left : B) (posted : Posted W) (fault : CrewFault W B) → fault ≡ fault_of cause held left new posted → left ≡ new.book → new.start ≡ book → IsDesk keeper new → IfSome fault.book (λ it. keeper.sealed it ≤ keeper.sealed book + length fault.taken)
        few_of cause held new left posted fault fault_is left_is start_was kept =
            subst (λ (it : CrewFault _ B). IfSome it.book (λ b. keeper.sealed b ≤ keeper.sealed book + length it.taken)) (sym fault_is)
            (subst (λ (b : B). keeper.sealed b ≤ keeper.sealed book + length new.requests.taken) (sym left_is)
            (subst (λ (b : B). keeper.sealed new.book ≤ keeper.sealed b + length new.requests.taken) start_was kept.sealed))

        left_few : {W : Type 0} (collected : Result (Desk B) (BrokenOff B)) (all : Result Gathered Breach) (posted : Posted W) (result : Result (Account W B) (CrewFault W B)) → IsCollected keeper before begun sink after collected → IsGathered ends all → Concludes keeper collected all posted result → IfErr result (λ fault. IfSome fault.book (λ left. keeper.sealed left ≤ keeper.sealed book + length fault.taken))
        left_few collected all posted (Ok account) has is ends_so = tt
        left_few (Ok new) all posted (Err fault) has is faulted = few_of _ _ new new.book posted fault (broken_for keeper ends new all posted fault is faulted).1.0 refl (has.0.start ∙ start_is) has.2
        left_few (Err broken) all posted (Err fault) has is faulted = few_of _ _ broken.desk.value broken.book posted fault faulted has.5 (has.1.start ∙ start_is) has.3

        lines_of : (new : Desk B) → agent_lanes_of new ≡ agent_lanes_of begun → length new.answers ≡ length ports
        lines_of new places =
            sym (length-map new.answers (lanes_at new.requests.lane))
            ∙ (ap length (places ∙ ap agent_lanes_of begun_is)
            ∙ (length-map desk.answers (lanes_at desk.requests.lane) ∙ (opened.count ∙ count_is)))

        -- what a crash leaves at each moment of its run
        crash_of : (new : Desk B) → BeginsWith keeper book before → new.start ≡ book → IsDesk keeper new → MayCrash keeper book new.book rules before (new.requests.taken ++ new.behind)
        crash_of new with_it start_was kept =
            subst (λ (b : B). MayCrash keeper b new.book (keeper.rules b) before (new.requests.taken ++ new.behind)) start_was
            (kept.stands before (subst (λ (b : B). BeginsWith keeper b before) (sym start_was) with_it)).crash

        crash_at_end : {W : Type 0} (collected : Result (Desk B) (BrokenOff B)) (all : Result Gathered Breach) (posted : Posted W) (result : Result (Account W B) (CrewFault W B)) → BeginsWith keeper book before → IsCollected keeper before begun sink after collected → Concludes keeper collected all posted result → IfOk result (λ account. MayCrash keeper book account.book rules before account.taken)
        crash_at_end collected all posted (Err fault) with_it has ends_so = tt
        crash_at_end (Ok new) (Ok gathered) posted (Ok account) with_it has closed =
            subst (λ (it : Account _ B). MayCrash keeper book it.book rules before it.taken) (sym closed.account_is)
            (subst (λ (requests : List Request). MayCrash keeper book new.book rules before requests) (ap (λ (q : List Request). new.requests.taken ++ q) (none_behind keeper new has.2 has.1) ∙ append-nil new.requests.taken)
            (crash_of new with_it (has.0.start ∙ start_is) has.2))
        crash_at_end (Ok new) (Err breach) posted (Ok account) with_it has closed = absurd closed
        crash_at_end (Err broken) all posted (Ok account) with_it has closed = absurd closed

        crash_left : {W : Type 0} (cause : CrewCause) (held : List Letter) (new : Desk B) (left : B) (posted : Posted W) (fault : CrewFault W B) → fault ≡ fault_of cause held left new posted → left ≡ new.book → BeginsWith keeper book before → agent_lanes_of new ≡ agent_lanes_of begun → new.start ≡ book → IsDesk keeper new
            → IfSome fault.book (MayCrashWithin keeper book rules before (length ports) fault.taken fault.behind)
        crash_left cause held new left posted fault fault_is left_is with_it places start_was kept =
            subst (λ (it : CrewFault _ B). IfSome it.book (MayCrashWithin keeper book rules before (length ports) it.taken it.behind)) (sym fault_is)
            (subst (MayCrashWithin keeper book rules before (length ports) new.requests.taken new.behind) (sym left_is)
            (record {
              together = kept.together;
              next = subst (λ (k : ℕ). AreNextOf k new.requests.taken new.behind) (lines_of new places) kept.next;
              at_each_moment = crash_of new with_it start_was kept;
            }))

        crash_at_fault : {W : Type 0} (collected : Result (Desk B) (BrokenOff B)) (all : Result Gathered Breach) (posted : Posted W) (result : Result (Account W B) (CrewFault W B)) → BeginsWith keeper book before → IsCollected keeper before begun sink after collected → IsGathered ends all → Concludes keeper collected all posted result
            → IfErr result (λ fault. IfSome fault.book (MayCrashWithin keeper book rules before (length ports) fault.taken fault.behind))
        crash_at_fault collected all posted (Ok account) with_it has is ends_so = tt
        crash_at_fault (Ok new) all posted (Err fault) with_it has is faulted = crash_left _ _ new new.book posted fault (broken_for keeper ends new all posted fault is faulted).1.0 refl with_it has.0.places (has.0.start ∙ start_is) has.2
        crash_at_fault (Err broken) all posted (Err fault) with_it has is faulted = crash_left _ _ broken.desk.value broken.book posted fault faulted has.5 with_it has.1.places (has.1.start ∙ start_is) has.3

        module _ {O L : Type 0} (outlet : Outlet O L) (start : O) (first : List Letter) (given : O) (by : outlet.posted start first given) (posted : Posted L) (post : IsPosted outlet given (outlet.room given) after.letters posted) where
          module _ (new : Desk B) {result : Result (Unit {0}) DeskFault} (run : IsRun keeper before TakesLetter begun new sink after result) where
            rules_are : keeper.rules new.start ≡ rules
            rules_are = ap keeper.rules (run.start ∙ start_is)

            sealed_are : AreSealedAfter before (history_under rules before new.requests.taken) (after.letters ++ letter_kept result)
            sealed_are = record {
              are =
                  ap (λ (r : Rules). sealed_letters (history_under r before new.requests.taken)) (sym rules_are)
                  ∙ (run_letters keeper before begun new sink after result run (ap (λ (d : Desk B). d.requests.taken) begun_is ∙ opened.taken.0) fresh).0;
            }

            lines_length : length new.answers ≡ length ports
            lines_length = lines_of new run.places

          -- if the run ended well, the sink took them all
          all_sealed : (new : Desk B) → IsRun keeper before TakesLetter begun new sink after (Ok tt) → AreSealedAfter before (history_under rules before new.requests.taken) after.letters
          all_sealed new run = subst (AreSealedAfter before (history_under rules before new.requests.taken)) (append-nil after.letters) (sealed_are new run)

          account_at : (new : Desk B) (lines : List AgentLine) (crew : List LaneHalves) → IsRun keeper before TakesLetter begun new sink after (Ok tt) → IsDesk keeper new → AreEnded ends lines crew → posted.lost ≡ None → All (IsHeard keeper before new) crew → keeper.has new.book (history keeper before new) []
              → HasAccount keeper port outlet start first rules before ports (account_of lines crew new posted)
          account_at new lines crew run kept ended all heard has =
              let ruled = rules_are new run in record {
                letters = after.letters;
                sealed = all_sealed new run;
                is = record {
                  agents = agent_accounts port rules desk.requests.lane keeper before new ruled 0 desk.answers ports ends lines crew (are_from 0 desk.answers (λ a d inside. (opened.lines a d inside).agent_is ∙ (let same : a ≡ 0 + a = omega arith in same))) served ended heard;
                  only = subst (λ (k : ℕ). All (λ (request : Request). request.agent < k) new.requests.taken) (lines_length new run) kept.mine;
                  book_rules = kept.rules ∙ ruled;
                  book = subst (λ (r : Rules). keeper.has new.book (history_under r before new.requests.taken) []) ruled has;
                  count = post.count ∙ ap length (post.whole.0 all).1;
                  outbox = subst (λ (ls : List Letter). outlet.ended start (first ++ ls) posted.end) (post.whole.0 all).1 (post.ended start first by);
                };
              }

          new_begins : (new : Desk B) → IsRun keeper before TakesLetter begun new sink after (Ok tt) → BeginsWith keeper book before → BeginsWith keeper new.start before
          new_begins new run is = subst (λ (b : B). BeginsWith keeper b before) (sym (run.start ∙ start_is)) is

          account_is : BeginsWith keeper book before → (collected : Result (Desk B) (BrokenOff B)) (all : Result Gathered Breach) (result : Result (Account L B) (CrewFault L B)) → IsCollected keeper before begun sink after collected → IsGathered ends all → Concludes keeper collected all posted result → IfOk result (HasAccount keeper port outlet start first rules before ports)
          account_is with_it collected all (Err fault) has is ends_so = tt
          account_is with_it (Ok new) (Ok gathered) (Ok account) has is closed =
              subst (HasAccount keeper port outlet start first rules before ports) (sym closed.account_is)
              (account_at new gathered.lines.items gathered.agents.items has.0 has.2 is closed.all (closed.heard before (new_begins new has.0 with_it)) (subst (λ (it : Account L B). keeper.has it.book (history keeper before new) []) closed.account_is (closed.has before (new_begins new has.0 with_it))))
          account_is with_it (Ok new) (Err breach) (Ok account) has is closed = absurd closed
          account_is with_it (Err broken) all (Ok account) has is closed = absurd closed

          -- a fault whose requests are those of the collector
          has_fault : (cause : CrewCause) (held : List Letter) (new : Desk B) (left : B) (fault : CrewFault L B) (letters : List Letter) → fault ≡ fault_of cause held left new posted → AreSealedAfter before (history_under rules before new.requests.taken) letters → IsHandedBack keeper rules new.behind (history_under rules before new.requests.taken) cause left → IsFaultWith outlet start first given letters (length ports) fault fault.cause
              → HasFault keeper outlet start first given rules before (length ports) fault
          has_fault cause held new left fault letters fault_is sealed handed is = record {
            sealed = letters;
            are = subst (λ (q : List Request). AreSealedAfter before (history_under rules before q) letters) (sym (ap (λ (it : CrewFault L B). it.taken) fault_is)) sealed;
            is = is;
            book = subst (λ (it : CrewFault L B). IfSome it.book (IsHandedBack keeper rules it.behind (history_under rules before it.taken) it.cause)) (sym fault_is) handed;
          }

          module _ (with_it : BeginsWith keeper book before) where
            module _ (new : Desk B) (fault : CrewFault L B) (run : IsRun keeper before TakesLetter begun new sink after (Ok tt)) (gone : all_gone new ≡ true) (kept : IsDesk keeper new) where
              left_has : keeper.has new.book (history_under rules before new.requests.taken) new.behind
              left_has =
                  subst (λ (r : Rules). keeper.has new.book (history_under r before new.requests.taken) new.behind) (rules_are new run)
                  (has_here keeper new kept (going_on new gone) before (new_begins new run with_it))

              broken_at : (cause : CrewCause) → IsBrokenFor new posted fault cause → HasFault keeper outlet start first given rules before (length ports) fault
              broken_at cause is =
                  has_fault cause [] new new.book fault after.letters is.0 (all_sealed new run) (record { rules_are = kept.rules ∙ rules_are new run; stands = broken_stands keeper new _ cause _ is.1 left_has })
                  (broken_fault keeper outlet start first given by after.letters posted post new kept (length ports) (lines_length new run) fault cause is.1 is.0 (none_behind keeper new kept gone))

            -- the collector has failed, for this reason
            handed_at : (breach : Breach) (new : Desk B) (left : B) {result : Result (Unit {0}) DeskFault} → IsRun keeper before TakesLetter begun new sink after result → IsDesk keeper new → IsStopped keeper new breach → left ≡ new.book → IsHandedBack keeper rules new.behind (history_under rules before new.requests.taken) (cause_of breach) left
            handed_at breach new left run kept stopped left_is =
                let ruled = rules_are new run in
                let stands = kept.stands before (subst (λ (b : B). BeginsWith keeper b before) (sym (run.start ∙ start_is)) with_it) in
                subst (IsHandedBack keeper rules new.behind (history_under rules before new.requests.taken) (cause_of breach)) (sym left_is)
                (record {
                  rules_are = kept.rules ∙ ruled;
                  stands =
                      subst (λ (r : Rules). StandsAtFault keeper new.behind (history_under r before new.requests.taken) (cause_of breach) new.book) ruled
                      (stopped_stands keeper new (history keeper before new) (cause_of breach) (stopped_for keeper new breach stopped) stands.has);
                })

            fault_is : (collected : Result (Desk B) (BrokenOff B)) (all : Result Gathered Breach) (result : Result (Account L B) (CrewFault L B)) → IsCollected keeper before begun sink after collected → IsGathered ends all → Concludes keeper collected all posted result → IfErr result (HasFault keeper outlet start first given rules before (length ports))
            fault_is collected all (Ok account) has is ends_so = tt
            fault_is (Ok new) all (Err fault) has is faulted = let why = broken_for keeper ends new all posted fault is faulted in broken_at new fault has.0 has.1 has.2 why.0 why.1
            fault_is (Err broken) all (Err fault) has is faulted =
                let new = broken.desk.value in
                has_fault (cause_of broken.breach) (letters_in broken.held) new broken.book fault (after.letters ++ letters_in broken.held) faulted
                (subst (λ (ls : List Letter). AreSealedAfter before (history_under rules before new.requests.taken) (after.letters ++ ls)) (sym has.2) (sealed_are new has.1))
                (handed_at broken.breach new broken.book has.1 has.3 has.4 has.5)
                (failed_fault keeper outlet start first given by after.letters posted post new has.3 (length ports) (lines_length new has.1) fault broken.breach broken.book broken.held has.4 faulted)

      -- ---- all that is said of a run

      handed : {W : Type 0} (collected : Result (Desk B) (BrokenOff B)) (all : Result Gathered Breach) (posted : Posted W) (result : Result (Account W B) (CrewFault W B)) → IsGathered ends all → Concludes keeper collected all posted result → IfErr result (λ fault. is_some fault.book ≡ true)
      handed collected all posted (Ok account) is ends_so = tt
      handed (Ok new) all posted (Err fault) is faulted = ap (λ (it : CrewFault _ B). is_some it.book) (broken_for keeper ends new all posted fault is faulted).1.0
      handed (Err broken) all posted (Err fault) is faulted = ap (λ (it : CrewFault _ B). is_some it.book) faulted

      pub crew_run : {O L : Type 0} (sink after : LetterSink) (fresh : sink.letters ≡ []) (outlet : Outlet O L) (given : O) (posted : Posted L) → IsPosted outlet given (outlet.room given) after.letters posted → (collected : Result (Desk B) (BrokenOff B)) (all : Result Gathered Breach) (result : Result (Account L B) (CrewFault L B)) → (before : List Exchange) × BeginsWith keeper book before
          → ((before : List Exchange) → BeginsWith keeper begun.start before → IsCollected keeper before begun sink after collected) → IsGathered ends all → Concludes keeper collected all posted result → IsCrewRun keeper port outlet book ports given result
      crew_run sink after fresh outlet given posted post collected all result some has is ends_so = record {
        account = λ start first by before with_it. account_is sink after fresh before outlet start first given by posted post with_it collected all result (has before (begins before with_it)) is ends_so;
        sealed = sealed_few sink after fresh some.0 collected all posted result (has some.0 (begins some.0 some.1)) ends_so;
        fault = λ start first by before with_it. fault_is sink after fresh before outlet start first given by posted post with_it collected all result (has before (begins before with_it)) is ends_so;
        left = left_few sink after fresh some.0 collected all posted result (has some.0 (begins some.0 some.1)) is ends_so;
        crash = λ before with_it. crash_at_end sink after fresh before collected all posted result with_it (has before (begins before with_it)) ends_so;
        crash_at_fault = λ before with_it. crash_at_fault sink after fresh before collected all posted result with_it (has before (begins before with_it)) is ends_so;
        handed_back = handed collected all posted result is ends_so;
      }
