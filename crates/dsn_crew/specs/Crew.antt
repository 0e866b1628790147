-- Crews: the account of a run of a whole crew, and what its fault says.
use Rattle.std.specs.Prelude.{◌≡◌, ◌≢◌, ℕ, suc, ◌+◌, ◌<◌, ◌≤◌, ◌⊎◌, Bool, false, List, [], ◌∷◌, ◌++◌, All, length, Option, Some, IfErr, IfOk, IfSome, Result, is_some, true}
use Rattle.std.specs.List.{flat_map}
use Rattle.dsn_book.specs.Book.{Book}
use Rattle.dsn_book.specs.Keeper.{MayCrash, book_keeper}
use Rattle.dsn_book.specs.NotKept.{unkept_code}
use Rattle.dsn_book.specs.Release.{Rules, history_under, releasing_none}
use Rattle.dsn_book.specs.declared.keeper.Keeper.{Ghosts as Keeper}
use Rattle.dsn_device.specs.declared.drain.Drain.{Ghosts as Drain}
use Rattle.dsn_text.specs.FaultCode.{agent_count_code, crew_refused_code, lane_lost_code}
use Rattle.dsn_frame.specs.bodies.Spoken.{reply_of}
use Rattle.dsn_crew.specs.lane.Lane.{IsNumbered, most_agents}
use Rattle.dsn_outcome.specs.Agents.{from_agent}
use Rattle.dsn_outcome.specs.History.{Limits, Exchange, answers_to, history_of, plain, sealed_letters}
use Rattle.dsn_outcome.specs.Letter.{Letter}
use Rattle.dsn_outcome.specs.Request.{Request, Bye}
use Rattle.dsn_outcome.specs.declared.answer.Reply.TheVariants.{Gone}
use Rattle.dsn_crew.specs.post.Outlet.{outbox_outlet}
use Rattle.dsn_report.specs.Outgoing.{begun}
use Rattle.dsn_report.specs.Site.{Site}
use Rattle.dsn_crew.specs.agents.Agent.{LaneHalves}
use Rattle.dsn_crew.specs.agents.Port.{AreOverPort, AreSessions, Conn, Given, HasGiven, Session, answers_of, bodies_of, faults_of, most_connections}
use Rattle.dsn_crew.specs.agents.Serve.{answers_from, numbered_answer, numbered_request, requests_from}
use Rattle.dsn_crew.specs.KeeperHistory.{AreNextOf, BeginsWith, StandsOrRefused}
use Rattle.dsn_crew.specs.desk.Intake.{most_together}
use Rattle.dsn_crew.specs.declared.agents.agent_line.AgentLine.{AgentLine}
use Rattle.dsn_crew.specs.declared.crew_cause.CrewCause.{CrewCause}
use Rattle.dsn_crew.specs.declared.crew_cause.CrewCause.TheVariants.{Lost, Refused, PortCount, Unkept}
use Rattle.dsn_crew.specs.declared.agents.port.Port.{Ghosts as Port}
use Rattle.dsn_crew.specs.declared.post.outlet.Outlet.{Ghosts as Outlet}

-- how many ports a crew has at most: as many as agents
abbrev pub most_ports : ℕ
most_ports = most_agents

abbrev pub crew_cause_code : CrewCause → ℕ
crew_cause_code Lost = lane_lost_code
crew_cause_code Refused = crew_refused_code
crew_cause_code PortCount = agent_count_code
crew_cause_code (Unkept why) = unkept_code why

-- a run that ended well. `agents` is what each agent did. `letters` is how many letters were
-- posted, and `unsent` are those that were not, in order. `outbox` is the outbox, or what is left
-- of another outlet, and `whole` says whether nothing failed in it. `book` is the keeper at the
-- end. `taken` are the requests that the collector took, in order. `halves` are each agent's two
-- halves, with all that it sent and got
pub record Account (W B : Type 0) : Type 0 where
  pub agents : List AgentLine
  pub letters : ℕ
  pub unsent : List Letter
  pub whole : Bool
  pub outbox : W
  pub book : B
  pub taken : List Request
  pub halves : List LaneHalves

-- What is true of one agent, by what its port says of its connections, if the collector took these
-- requests after this history and carried them out by these rules. All that the agent sent was
-- taken, in that order, and it received the answers of the history. It sent the requests of the
-- sessions over its connections, one session after another, and then its only goodbye; it received
-- their replies, and then Gone. Its line counts its requests, its connections, and the sessions
-- among them that ended with a fault, none of which is a lost lane. Its port gave the number of
-- connections that the line says, and then was done or failed, as the line says
pub record IsAgentAccount (conns : Option (List Conn)) (may_give : List Given → Type 0)
    (rules : Rules) (before : List Exchange) (taken : List Request)
    (agent : ℕ)
    (line : AgentLine) (halves : LaneHalves) : Type 0 where
  pub number : halves.requests.agent ≡ agent
  pub taken_all : from_agent (λ (request : Request). request.agent) agent taken ≡ halves.requests.sent
  pub answered : halves.answers.taken ≡ answers_to agent (history_under rules before taken)
  pub sessions : List Session
  pub follow : AreSessions rules.limits.requests 0 sessions
  pub over : AreOverPort conns sessions false line.port_failed
  pub gave : HasGiven may_give line false
  pub heard : All (λ (session : Session). session.end ≢ Some lane_lost_code) sessions
  pub sent :
      halves.requests.sent
      ≡ requests_from agent 0 (bodies_of sessions)
      ++ numbered_request agent line.requests Bye ∷ []
  pub got :
      halves.answers.taken
      ≡ answers_from agent 0 (flat_map reply_of (answers_of sessions))
      ++ numbered_answer agent line.requests (plain Gone) ∷ []
  pub requests : line.requests ≡ length (bodies_of sessions)
  pub connections : line.connections ≡ length sessions
  pub faults : line.faults ≡ faults_of sessions
  pub few : length sessions ≤ most_connections

-- what is true of each agent, from one on, with the port in its place
abbrev pub AreAgentAccounts :
    {P S : Type 0} → Port P S → Rules → List Exchange → List Request → ℕ → List P → List AgentLine
    → List LaneHalves → Type 0
AreAgentAccounts port rules before taken agent [] [] [] = Unit {0}
AreAgentAccounts port rules before taken agent (one ∷ ports) (line ∷ lines) (halves ∷ crew) =
    IsAgentAccount (port.conns one) (port.may_give one) rules before taken agent line halves
    × AreAgentAccounts port rules before taken (suc agent) ports lines crew
AreAgentAccounts port rules before taken agent ports lines crew = ⊥

-- The account of a run after a history, which ended well and carried out requests by these rules.
-- It has the account of each agent, and only these agents' requests were taken. The book keeps the
-- rules, models the history with what was taken, and no kept request waits. The outlet, from this
-- start, has ended after the letters that were passed to it first and these, in order; each of these
-- is posted or unsent
pub record IsAccountAfter {B P S O L : Type 0} (keeper : Keeper B) (port : Port P S)
    (outlet : Outlet O L) (start : O) (first : List Letter) (rules : Rules) (before : List Exchange)
    (letters : List Letter) (ports : List P) (account : Account L B) : Type 0 where
  pub agents : AreAgentAccounts port rules before account.taken 0 ports account.agents account.halves
  pub only : All (λ (request : Request). request.agent < length ports) account.taken
  pub book_rules : keeper.rules account.book ≡ rules
  pub book : keeper.has account.book (history_under rules before account.taken) []
  pub count : account.letters + length account.unsent ≡ length letters
  pub outbox :
      outlet.ended start (first ++ letters)
      (record { outbox = account.outbox; whole = account.whole; unsent = account.unsent })

-- the account of a run over a book that begins empty, and over an outbox. No key is released. Its
-- letters are those that the history of what was taken sealed
abbrev pub IsAccount :
    {P S W : Type 0} → Port P S → Drain W → Site → Limits → List P → W → Account W Book → Type 0
IsAccount port drain site limits ports start account =
    IsAccountAfter book_keeper port (outbox_outlet drain) (begun site start) []
    (releasing_none limits) []
    (sealed_letters (history_of limits account.taken)) ports account

-- the letters that a history sealed after one before it
pub record AreSealedAfter (before history : List Exchange) (letters : List Letter) : Type 0 where
  pub are : sealed_letters history ≡ sealed_letters before ++ letters

-- the account of a run after any history: its letters are those that were sealed in it
pub record HasAccount {B P S O L : Type 0} (keeper : Keeper B) (port : Port P S)
    (outlet : Outlet O L) (start : O) (first : List Letter) (rules : Rules) (before : List Exchange)
    (ports : List P) (account : Account L B) : Type 0 where
  pub letters : List Letter
  pub sealed : AreSealedAfter before (history_under rules before account.taken) letters
  pub is : IsAccountAfter keeper port outlet start first rules before letters ports account

-- a run that ended with a fault. `cause` is its cause. `outbox` is the outbox, or what is left of
-- another outlet, and `unsent` are the letters that it didn't pass on. `book` is the keeper, if it
-- is returned. `taken` are the requests that were taken and carried out, and `behind` those after
-- them that were taken and not carried out
pub record CrewFault (W B : Type 0) : Type 0 where
  pub cause : CrewCause
  pub outbox : W
  pub unsent : List Letter
  pub book : Option B
  pub taken : List Request
  pub behind : List Request

-- a run that never began: nothing was taken, and no letter was passed to the outlet that it got
pub record IsUnbegun {B O L : Type 0} (outlet : Outlet O L) (given : O)
    (fault : CrewFault L B) : Type 0 where
  pub taken : fault.taken ≡ []
  pub behind : fault.behind ≡ []
  pub unsent : fault.unsent ≡ []
  pub outbox : outlet.untouched given fault.outbox

-- What is left of a run of the given number of agents, in which these letters were sealed, if it was
-- broken off. The requests that were carried out are of these agents, and numbered from 0 agent by
-- agent; those behind are at most `most_together`, and the next of their agents. The poster received
-- the first of the sealed letters. Those of them that the outlet didn't pass on are unsent, in order;
-- it has ended after the letters that were passed to it first and these. No more later letters waited
-- for the poster than the outlet that the run got has room for; they are dropped. The collector still
-- held at most one letter after them. The keeper is returned
pub record IsBrokenOff {B O L : Type 0} (outlet : Outlet O L) (start : O) (first : List Letter)
    (given : O) (sealed : List Letter) (agents : ℕ) (fault : CrewFault L B) : Type 0 where
  pub only : All (λ (request : Request). request.agent < agents) fault.taken
  pub numbered :
      (agent : ℕ)
      → IsNumbered (λ (request : Request). request.number)
      (from_agent (λ (request : Request). request.agent) agent fault.taken)
  pub together : length fault.behind ≤ most_together
  pub next : AreNextOf agents fault.taken fault.behind
  pub letters : List Letter
  pub between : List Letter
  pub held : List Letter
  pub sealed_are : sealed ≡ letters ++ (between ++ held)
  pub few : length between ≤ outlet.room given
  pub one : length held ≤ 1
  pub whole : Bool
  pub unsent : List Letter
  pub unsent_are : fault.unsent ≡ unsent ++ held
  pub outbox :
      outlet.ended start (first ++ letters)
      (record { outbox = fault.outbox; whole = whole; unsent = unsent })
  pub handed_back : is_some fault.book ≡ true

-- The fault of a run for the given number of agents, if these letters were sealed. 43: there are not
-- 1 to 16 ports, and the run never began. 42: the run never began; or the thread of an agent could not
-- be made, the poster received all letters, and nothing is behind. 41: a lane was lost. 45: a request
-- was not kept
abbrev pub IsFaultWith :
    {B O L : Type 0} → Outlet O L → O → List Letter → O → List Letter → ℕ → CrewFault L B → CrewCause
    → Type 0
IsFaultWith outlet start first given sealed agents fault PortCount = IsUnbegun outlet given fault
IsFaultWith outlet start first given sealed agents fault Refused =
    IsUnbegun outlet given fault
    ⊎ ((broken : IsBrokenOff outlet start first given sealed agents fault)
    × (broken.letters ≡ sealed) × (fault.behind ≡ []))
IsFaultWith outlet start first given sealed agents fault Lost =
    IsBrokenOff outlet start first given sealed agents fault
IsFaultWith outlet start first given sealed agents fault (Unkept why) =
    IsBrokenOff outlet start first given sealed agents fault

-- the fault of a run over a book that begins empty, and over an outbox
abbrev pub IsCrewFault :
    {B W : Type 0} → Drain W → Site → Limits → ℕ → W → CrewFault W B → CrewCause → Type 0
IsCrewFault drain site limits agents start fault cause =
    IsFaultWith (outbox_outlet drain) (begun site start) [] (begun site start)
    (sealed_letters (history_of limits fault.taken)) agents fault cause

-- the keeper models this history at a fault of this cause, and has kept those behind. If the cause
-- is that it refused these, it modelled the history until then, and is what its refusal says
abbrev pub StandsAtFault :
    {B : Type 0} → Keeper B → List Request → List Exchange → CrewCause → B → Type 0
StandsAtFault keeper behind exchanges Lost book = keeper.has book exchanges behind
StandsAtFault keeper behind exchanges Refused book = keeper.has book exchanges behind
StandsAtFault keeper behind exchanges PortCount book = keeper.has book exchanges behind
StandsAtFault keeper behind exchanges (Unkept why) book =
    StandsOrRefused keeper (Some why) behind exchanges book

-- what is returned at a fault: it keeps the rules of the run, and this is what it models
pub record IsHandedBack {B : Type 0} (keeper : Keeper B) (rules : Rules) (behind : List Request)
    (exchanges : List Exchange) (cause : CrewCause) (book : B) : Type 0 where
  pub rules_are : keeper.rules book ≡ rules
  pub stands : StandsAtFault keeper behind exchanges cause book

-- the fault of a run after any history, which carried out requests by these rules
pub record HasFault {B O L : Type 0} (keeper : Keeper B) (outlet : Outlet O L) (start : O)
    (first : List Letter) (given : O) (rules : Rules) (before : List Exchange) (agents : ℕ)
    (fault : CrewFault L B) : Type 0 where
  pub sealed : List Letter
  pub are : AreSealedAfter before (history_under rules before fault.taken) sealed
  pub is : IsFaultWith outlet start first given sealed agents fault fault.cause
  pub book :
      IfSome fault.book
      (IsHandedBack keeper rules fault.behind (history_under rules before fault.taken) fault.cause)

-- What a crash leaves at each moment of a run of the given number of agents that ended with a
-- fault. A later run models the history with a first part of the requests that were carried out and
-- of those behind, which are the next of their agents
pub record MayCrashWithin {B : Type 0} (keeper : Keeper B) (start : B) (rules : Rules)
    (before : List Exchange) (agents : ℕ) (taken behind : List Request) (book : B) : Type 0 where
  pub together : length behind ≤ most_together
  pub next : AreNextOf agents taken behind
  pub at_each_moment : MayCrash keeper start book rules before (taken ++ behind)

-- The result of a run over these ports and this keeper, after what was passed to this outlet. It is an
-- account by the keeper's rules, whatever was passed before and whatever history the run began with;
-- otherwise a fault, which returns the keeper. The run sealed no more letters than requests were
-- taken. The last clauses say what a crash leaves at each moment of the run
pub record IsCrewRun {B P S O L : Type 0} (keeper : Keeper B) (port : Port P S)
    (outlet : Outlet O L) (book : B) (ports : List P) (given : O)
    (result : Result (Account L B) (CrewFault L B)) : Type 0 where
  pub account : (start : O) (first : List Letter) → outlet.posted start first given
      → (before : List Exchange) → BeginsWith keeper book before
      → IfOk result (HasAccount keeper port outlet start first (keeper.rules book) before ports)
  pub sealed :
      IfOk result
      (λ account. keeper.sealed account.book ≤ keeper.sealed book + length account.taken)
  pub fault : (start : O) (first : List Letter) → outlet.posted start first given
      → (before : List Exchange) → BeginsWith keeper book before
      → IfErr result
      (HasFault keeper outlet start first given (keeper.rules book) before (length ports))
  pub left :
      IfErr result
      (λ fault. IfSome fault.book
      (λ left. keeper.sealed left ≤ keeper.sealed book + length fault.taken))
  pub crash : (before : List Exchange) → BeginsWith keeper book before
      → IfOk result
      (λ account. MayCrash keeper book account.book (keeper.rules book) before account.taken)
  pub crash_at_fault : (before : List Exchange) → BeginsWith keeper book before
      → IfErr result
      (λ fault. IfSome fault.book
      (MayCrashWithin keeper book (keeper.rules book) before (length ports) fault.taken
      fault.behind))
  pub handed_back : IfErr result (λ fault. is_some fault.book ≡ true)
