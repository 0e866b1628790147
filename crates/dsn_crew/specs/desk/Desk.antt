-- Desks: what contracts see of the collector, and what each request that it takes does.
use Rattle.std.specs.Prelude.{◌≡◌, ◌≢◌, ◌⊎◌, ℕ, ◌+◌, ◌^◌, ◌<◌, ◌≤◌, Bool, true, false, ◌==◌, ◌&&◌, ◌||◌, not, List, [], ◌∷◌, ◌++◌, length, map, take, slice_set, All, Result, Ok, Err, is_err, Option, Some, None}
use mathlib.Core.List.{IsPrefix}
use Rattle.std.specs.List.{slice_index_or}
use Rattle.dsn_book.specs.Keeper.{MayCrash}
use Rattle.dsn_book.specs.declared.keeper.Keeper.{Ghosts as Keeper}
use Rattle.dsn_book.specs.Release.{before_request, exchange_under, history_under}
use Rattle.dsn_book.specs.declared.not_kept.NotKept.{NotKept}
use Rattle.dsn_book.specs.Step.{letters_in}
use Rattle.dsn_crew.specs.lane.Halves.{Half, Out}
use Rattle.dsn_crew.specs.lane.Lane.{IsNumbered, most_agents}
use Rattle.dsn_outcome.specs.Agents.{from_agent}
use Rattle.dsn_outcome.specs.History.{Exchange, answer_of, answers_to, letter_of, sealed_letters}
use Rattle.dsn_outcome.specs.Letter.{Letter}
use Rattle.dsn_outcome.specs.Request.{Request}
use Rattle.dsn_outcome.specs.declared.answer.Answer.{Answer}
use Rattle.dsn_crew.specs.post.Sink.{Handed}
use Rattle.dsn_crew.specs.agents.AgentLanes.{AgentLanes, lanes_at}
use Rattle.dsn_crew.specs.desk.Intake.{goodbyes, most_together, taken_request}
use Rattle.dsn_crew.specs.declared.desk.desk_fault.DeskFault.{DeskFault}
use Rattle.dsn_crew.specs.declared.desk.desk_fault.DeskFault.TheVariants.{Requests, Answers, Letters}
use Rattle.dsn_crew.specs.KeeperHistory.{BeginsWith, StandsOrRefused, AreNextOf}

-- the collector. `start` is its keeper when it began, `book` its keeper now. `requests` is the half
-- by which it takes requests, with those that it has carried out; `behind` are those that it took
-- and hasn't carried out so far. `answers` are the halves by which it answers, agent by agent.
-- `missed` is the number of agents that never start, as far as it knows. `unkept` is why those
-- behind were not kept, if they weren't
pub record Desk (B : Type 0) : Type 0 where
  pub start : B
  pub book : B
  pub requests : Out Request
  pub behind : List Request
  pub answers : List (Half Answer)
  pub missed : ℕ
  pub failed : Bool
  pub unkept : Option NotKept

-- as many agents said goodbye or never start as there are, and the collector has not failed
abbrev pub all_gone : {B : Type 0} → Desk B → Bool
all_gone desk =
    not desk.failed && (goodbyes desk.requests.taken + desk.missed == length desk.answers)

-- once it has heard just these requests, not all agents said goodbye or never start
abbrev pub AreLeft : {B : Type 0} → Desk B → List Request → Type 0
AreLeft desk requests = goodbyes requests + desk.missed ≢ length desk.answers

-- the history of the requests that it carried out by its keeper's rules, after the one that it began
-- with; and with these requests more
abbrev pub history : {B : Type 0} → Keeper B → List Exchange → Desk B → List Exchange
history keeper before desk = history_under (keeper.rules desk.start) before desk.requests.taken

abbrev pub history_with :
    {B : Type 0} → Keeper B → List Exchange → Desk B → List Request → List Exchange
history_with keeper before desk more =
    history_under (keeper.rules desk.start) before (desk.requests.taken ++ more)

-- the history in which its next request is carried out, once room is made for it, and the exchange
abbrev pub history_before :
    {B : Type 0} → Keeper B → List Exchange → Desk B → Request → List Exchange
history_before keeper before desk request =
    before_request (keeper.rules desk.start) (history keeper before desk) request

abbrev pub next_exchange : {B : Type 0} → Keeper B → List Exchange → Desk B → Request → Exchange
next_exchange keeper before desk request =
    exchange_under (keeper.rules desk.start) (history keeper before desk) request

-- each agent was sent what a history answers it
abbrev pub AreAnswered : List (Half Answer) → List Exchange → Type 0
AreAnswered halves exchanges =
    (a : ℕ) (d : Half Answer) → a < length halves
    → (slice_index_or halves a d).sent ≡ answers_to a exchanges

-- A collector that began with a history. Its book models what it carried out, and has kept those
-- behind, or modelled that until it refused these. It sent each agent the first of the answers that
-- this history gives the agent, and all of them unless it failed. At each moment since it began a
-- crash leaves the history with a first part of the requests that it took, those behind too
pub record StandsAfter {B : Type 0} (keeper : Keeper B) (before : List Exchange)
    (desk : Desk B) : Type 0 where
  pub has :
      StandsOrRefused keeper desk.unkept desk.behind (history keeper before desk) desk.book
  pub sent : (a : ℕ) (d : Half Answer) → a < length desk.answers
      → IsPrefix (slice_index_or desk.answers a d).sent (answers_to a (history keeper before desk))
  pub answered : desk.failed ≡ false → AreAnswered desk.answers (history keeper before desk)
  pub crash : MayCrash keeper desk.start desk.book (keeper.rules desk.start) before
      (desk.requests.taken ++ desk.behind)

-- What every collector keeps. Each answer lane is of its agent, and the agents are numbered from 0,
-- up to `most_agents`. What it took, those behind too, is of these agents, and numbered from 0 agent
-- by agent. Those behind are at most `most_together`, and each was taken while agents were left. It
-- began with some history, and models what it carried out after whatever history it began with, by
-- the rules that it began with. Unless it failed, each agent was answered as often as its requests
-- were carried out, and no request was refused
pub record IsDesk {B : Type 0} (keeper : Keeper B) (desk : Desk B) : Type 0 where
  pub first : desk.requests.first ≡ 0
  pub past : desk.requests.past ≡ length desk.answers
  pub few : length desk.answers ≤ most_agents
  pub lines : (a : ℕ) (d : Half Answer) → a < length desk.answers
      → (slice_index_or desk.answers a d).agent ≡ a
  pub mine : All (λ (request : Request). request.agent < length desk.answers) desk.requests.taken
  pub numbered : (agent : ℕ)
      → IsNumbered (λ (request : Request). request.number)
      (from_agent (λ (request : Request). request.agent) agent desk.requests.taken)
  pub rules : keeper.rules desk.book ≡ keeper.rules desk.start
  pub began : (before : List Exchange) × BeginsWith keeper desk.start before
  pub room : keeper.sealed desk.start < 2 ^ 63
  pub sealed : keeper.sealed desk.book ≤ keeper.sealed desk.start + length desk.requests.taken
  pub kept : desk.failed ≡ false → desk.unkept ≡ None
  pub next : AreNextOf (length desk.answers) desk.requests.taken desk.behind
  pub together : length desk.behind ≤ most_together
  pub in_time : (n : ℕ) → n < length desk.behind
      → AreLeft desk (desk.requests.taken ++ take n desk.behind)
  pub counted : desk.failed ≡ false → (a : ℕ) (d : Half Answer) → a < length desk.answers
      → length (slice_index_or desk.answers a d).sent
      ≡ length (from_agent (λ (request : Request). request.agent) a desk.requests.taken)
  pub stands : (before : List Exchange) → BeginsWith keeper desk.start before
      → StandsAfter keeper before desk

-- an answer lane's half once an answer was sent, or was lost
abbrev pub answered_more : Bool → Half Answer → Answer → Half Answer
answered_more true half answer =
    record { lane = half.lane; agent = half.agent; sent = half.sent ++ answer ∷ [] }
answered_more false half answer = half

-- the halves once this answer was sent to its agent, or was lost
abbrev pub IsAnswerSent : Bool → List (Half Answer) → Answer → List (Half Answer) → Type 0
IsAnswerSent sent old answer new =
    (d : Half Answer)
    → new ≡ slice_set old answer.agent
    (answered_more sent (slice_index_or old answer.agent d) answer)

-- a collector that failed, or not, with nothing else changed
abbrev pub with_failed : {B : Type 0} → Desk B → Bool → Desk B
with_failed desk failed = record desk { failed = failed }

-- and one whose keeper refused them, and is now this one
abbrev pub with_unkept : {B : Type 0} → Desk B → List Request → NotKept → B → Desk B
with_unkept desk behind why book =
    record desk { book = book; failed = true; behind = behind; unkept = Some why }

-- A collector that failed with nothing else changed. Or one that hadn't failed and had nothing
-- behind: its keeper refused what it took together, one request at least, and is what it says of that
abbrev pub HasStopped : {B : Type 0} → Keeper B → Desk B → Desk B → Type 0
HasStopped keeper old new =
    (new ≡ with_failed old true)
    ⊎ ((old.failed ≡ false) × (old.behind ≡ []) × (why : NotKept)
    × keeper.refuses old.book new.behind why new.book × (1 ≤ length new.behind)
    × (new ≡ with_unkept old new.behind why new.book))

-- a collector that learns that this number of agents more never start, with nothing else changed
abbrev pub missing : {B : Type 0} → Desk B → ℕ → Desk B
missing desk agents = record desk { missed = desk.missed + agents }

-- the request is the first of those behind, or none was; and then these are
abbrev pub IsFirstBehind : List Request → Request → List Request → Type 0
IsFirstBehind old request new = (old ≡ request ∷ new) ⊎ (old ≡ [])

-- What taking one request does, after the history that the collector began with: it is the first of
-- those behind, if some are. Ok: it was answered as the history defines, once room was made for it,
-- and the letter is the one that it sealed. `Requests`: nothing was carried out. `Answers`: the
-- request was carried out, and its answer is lost
abbrev pub IsRequestTaken :
    {B : Type 0} → Keeper B → List Exchange → Desk B → Desk B → Result (Option Letter) DeskFault
    → Type 0
IsRequestTaken keeper before old new (Ok letter) =
    (request : Request) × (old.failed ≡ false) × (new.failed ≡ false)
    × (new.requests ≡ taken_request old.requests request)
    × IsAnswerSent true old.answers
    (answer_of (history_before keeper before old request)
    (next_exchange keeper before old request)) new.answers
    × (new.missed ≡ old.missed)
    × (letters_in letter
    ≡ letter_of (history_before keeper before old request)
    (next_exchange keeper before old request))
    × IsFirstBehind old.behind request new.behind
IsRequestTaken keeper before old new (Err Requests) = HasStopped keeper old new
IsRequestTaken keeper before old new (Err (Answers agent letter)) =
    (request : Request) × (old.failed ≡ false) × (new.failed ≡ true)
    × (new.requests ≡ taken_request old.requests request)
    × (agent ≡ request.agent) × (new.answers ≡ old.answers) × (new.missed ≡ old.missed)
    × (letters_in letter
    ≡ letter_of (history_before keeper before old request)
    (next_exchange keeper before old request))
    × IsFirstBehind old.behind request new.behind
IsRequestTaken keeper before old new (Err (Letters letter)) = ⊥

abbrev pub taken_requests : Out Request → List Request → Out Request
taken_requests out more =
    record { lane = out.lane; first = out.first; past = out.past; taken = out.taken ++ more }

-- the letter that a fault holds, if it does
abbrev pub letter_kept : Result (Unit {0}) DeskFault → List Letter
letter_kept (Ok done) = []
letter_kept (Err Requests) = []
letter_kept (Err (Answers agent letter)) = letters_in letter
letter_kept (Err (Letters letter)) = letter ∷ []

-- the lanes of its agents
abbrev pub agent_lanes_of : {B : Type 0} → Desk B → List AgentLanes
agent_lanes_of desk = map (lanes_at desk.requests.lane) desk.answers

-- the last of the requests that a collector carried out, and the letter that it sealed, if it did
pub record IsLastRequest {B : Type 0} (keeper : Keeper B) (before : List Exchange) (desk : Desk B)
    (more : List Request) (last : Request) (letter : List Letter) : Type 0 where
  pub earlier : List Request
  pub more_are : more ≡ earlier ++ last ∷ []
  pub letter_is : letter
      ≡ letter_of
      (before_request (keeper.rules desk.start) (history_with keeper before desk earlier) last)
      (exchange_under (keeper.rules desk.start) (history_with keeper before desk earlier) last)

-- What a fault that ends a run says of it. `Requests`: all that was carried out was answered, and
-- agents are left. `Answers`: all was answered except the last request, which was of this agent and
-- sealed this letter, if any. `Letters`: all was answered, and the last request sealed this letter. A
-- collector that had failed before returns `Requests`
abbrev pub EndsBy :
    {B : Type 0} → Keeper B → List Exchange → Desk B → List Request → Desk B
    → Result (Unit {0}) DeskFault → Type 0
EndsBy keeper before old more new (Ok done) = Unit {0}
EndsBy keeper before old more new (Err Requests) =
    old.failed ≡ false
    → AreAnswered new.answers (history keeper before new) × AreLeft new new.requests.taken
EndsBy keeper before old more new (Err (Answers agent letter)) =
    (old.failed ≡ false) × (last : Request) × (agent ≡ last.agent)
    × (ends : IsLastRequest keeper before old more last (letters_in letter))
    × AreAnswered new.answers (history_with keeper before old ends.earlier)
EndsBy keeper before old more new (Err (Letters letter)) =
    (old.failed ≡ false) × (last : Request)
    × IsLastRequest keeper before old more last (letter ∷ [])
    × AreAnswered new.answers (history keeper before new)

-- a collector after a run that took nothing: unchanged, except that it has failed if there is a fault
abbrev pub IsUnmoved :
    {B : Type 0} → Keeper B → Desk B → Desk B → Result (Unit {0}) DeskFault → Type 0
IsUnmoved keeper old new (Ok done) = new ≡ old
IsUnmoved keeper old new (Err fault) = HasStopped keeper old new

-- A run of the collector. It carried out `more`, those behind first, each taken while agents were
-- left, and none once it had failed. It passed on the letters that these requests sealed, in order,
-- except the one that the fault holds. A run that carried none out leaves the collector unchanged,
-- except that it has failed if there is a fault
pub record IsRun {B S : Type 0} (keeper : Keeper B) (before : List Exchange)
    (takes : S → Letter → S → Type 0) (old new : Desk B) (sink after : S)
    (result : Result (Unit {0}) DeskFault) : Type 0 where
  pub more : List Request
  pub requests : new.requests ≡ taken_requests old.requests more
  pub behind : IsPrefix old.behind (more ++ new.behind)
  pub handed : List Letter
  pub sink_is : Handed takes sink handed after
  pub letters : sealed_letters (history keeper before new)
      ≡ sealed_letters (history keeper before old) ++ (handed ++ letter_kept result)
  pub start : new.start ≡ old.start
  pub places : agent_lanes_of new ≡ agent_lanes_of old
  pub missed : new.missed ≡ old.missed
  pub failed : new.failed ≡ (old.failed || is_err result)
  pub waiting : (n : ℕ) → n < length more → AreLeft old (old.requests.taken ++ take n more)
  pub idle : old.failed ≡ true → more ≡ []
  pub unmoved : more ≡ [] → IsUnmoved keeper old new result
  pub ends : EndsBy keeper before old more new result
