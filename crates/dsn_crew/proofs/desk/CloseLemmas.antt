-- Closes: each agent that said goodbye was heard to its end, however many there are.
use Rattle.std.proofs.Common.{◌≡◌, ℕ, ◌<◌, ◌≤◌, ◌&&◌, not, Bool, true, false, All, Contains, List, [], ◌∷◌, ◌++◌, length, map, refl, ap, sym, ◌∙◌, subst, append_assoc, length-append, arith}
use Rattle.std.proofs.lemmas.Bool.{false≢true}
use Rattle.std.proofs.lemmas.List.{append-nil, get_or-map, length-map, nil_from_length}
use Rattle.std.proofs.lemmas.List.Elements.{All-cons, All-head, All-nil, All-tail, All-weaker}
use Rattle.std.proofs.lemmas.Simd.{map-map}
use Rattle.std.specs.List.{slice_index_or}
use mathlib.Core.List.{IsPrefix}
use Rattle.dsn_book.specs.declared.keeper.Keeper.{Ghosts as Keeper}
use Rattle.dsn_crew.specs.lane.Halves.{Half, Identity}
use Rattle.dsn_crew.specs.lane.Lane.{most_agents}
use Rattle.dsn_outcome.specs.Agents.{from_agent}
use Rattle.dsn_outcome.specs.History.{Exchange, answers_to}
use Rattle.dsn_outcome.specs.Request.{Request}
use Rattle.dsn_outcome.specs.declared.answer.Answer.{Answer}
use Rattle.dsn_crew.specs.agents.Agent.{LaneHalves, IsFinished}
use Rattle.dsn_crew.specs.desk.Close.{AreCrew, AreOf, IsHeard}
use Rattle.dsn_crew.specs.desk.Desk.{Desk, IsDesk, StandsAfter, all_gone, history}
use Rattle.dsn_crew.specs.KeeperHistory.{IsEarlier}
use Rattle.dsn_crew.specs.agents.AgentLanes.{AgentLanes, lanes_at, lanes_of}
use Rattle.dsn_crew.proofs.desk.EarlierLemmas.{answered_as_asked}
use Rattle.dsn_crew.proofs.desk.DeskLemmas.{first_half}

-- ---- prefixes and lists

prefix-length : {A : Type 0} (first whole : List A) → IsPrefix first whole → length first ≤ length whole
prefix-length first whole is = let split = length-append first is.0 in let long = ap length is.1 in omega arith

-- a prefix that is as long is the whole
prefix-whole : {A : Type 0} (first whole : List A) → IsPrefix first whole → length whole ≤ length first → first ≡ whole
prefix-whole first whole is long =
    let split = length-append first is.0 in
    let same = ap length is.1 in
    let none : is.0 ≡ [] = nil_from_length is.0 (omega arith) in
    sym (append-nil first) ∙ (ap (λ (rest : List _). first ++ rest) (sym none) ∙ is.1)

from_map : {X Y : Type 0} (P : Y → Type 0) (f : X → Y) (xs : List X) → All P (map f xs) → All (λ x. P (f x)) xs
from_map P f [] all = All-nil (λ x. P (f x))
from_map P f (x ∷ xs) all = All-cons (λ y. P (f y)) x xs (All-head P (f x) (map f xs) all) (from_map P f xs (All-tail P (f x) (map f xs) all))

to_map : {X Y : Type 0} (P : Y → Type 0) (f : X → Y) (xs : List X) → All (λ x. P (f x)) xs → All P (map f xs)
to_map P f [] all = All-nil P
to_map P f (x ∷ xs) all = All-cons P (f x) (map f xs) (All-head (λ y. P (f y)) x xs all) (to_map P f xs (All-tail (λ y. P (f y)) x xs all))

-- ---- one agent

-- what the one sending half of a lane has sent begins with what was taken
pub one_prefix : (halves : List (Half Answer)) (half : Half Answer) (agent : ℕ) (taken : List Answer) → halves ≡ half ∷ [] → half.agent ≡ agent → from_agent (λ (answer : Answer). answer.agent) agent taken ≡ taken
    → All (λ (it : Half Answer). IsPrefix (from_agent (λ (answer : Answer). answer.agent) it.agent taken) it.sent) halves → IsPrefix taken half.sent
one_prefix halves half agent taken one of_agent mine all =
    let here = All-head (λ (it : Half Answer). IsPrefix (from_agent (λ (answer : Answer). answer.agent) it.agent taken) it.sent) half [] (subst (All (λ (it : Half Answer). IsPrefix (from_agent (λ (answer : Answer). answer.agent) it.agent taken) it.sent)) one all) in
    subst (λ (items : List Answer). IsPrefix items half.sent) (ap (λ (a : ℕ). from_agent (λ (answer : Answer). answer.agent) a taken) of_agent ∙ mine) here

-- an agent that said goodbye, and got the first of the answers that a history gives it
pub record IsAnswered (exchanges : List Exchange) (halves : LaneHalves) : Type 0 where
  pub finished : IsFinished halves
  pub got : IsPrefix halves.answers.taken (answers_to halves.requests.agent exchanges)

-- where what was taken of it is the first of what it sent, then it is all of that: it has an answer to each request
heard : {B : Type 0} (keeper : Keeper B) (before : List Exchange) (desk : Desk B) (halves : LaneHalves) → IsEarlier before → halves.requests.agent < most_agents → IsAnswered (history keeper before desk) halves → IsPrefix (from_agent (λ (request : Request). request.agent) halves.requests.agent desk.requests.taken) halves.requests.sent → IsHeard keeper before desk halves
heard keeper before desk halves earlier small answered taken =
    let each = answered.finished.answered in
    let as_many = answered_as_asked (keeper.rules desk.start) before halves.requests.agent desk.requests.taken earlier small in
    let less = prefix-length _ _ answered.got in
    let few = prefix-length _ _ taken in
    record {
      taken = prefix-whole _ _ taken (omega arith);
      got = prefix-whole _ _ answered.got (omega arith);
    }

-- ---- all agents, one after another

-- an agent, and the half that answers it
pub paired : (lane : Identity Request) (crew rest : List LaneHalves) (lines left : List (Half Answer)) (one : LaneHalves) (line : Half Answer) → map lanes_of crew ≡ map (lanes_at lane) lines → crew ≡ one ∷ rest → lines ≡ line ∷ left
    → (lanes_of one ≡ lanes_at lane line) × (map lanes_of rest ≡ map (lanes_at lane) left)
paired lane crew rest lines left one line same crew_is lines_are =
    let both : lanes_of one ∷ map lanes_of rest ≡ lanes_at lane line ∷ map (lanes_at lane) left = sym (ap (map lanes_of) crew_is) ∙ (same ∙ ap (map (lanes_at lane)) lines_are) in
    (cc, cc)

pub as_many : (lane : Identity Request) (crew : List LaneHalves) (lines : List (Half Answer)) → map lanes_of crew ≡ map (lanes_at lane) lines → length crew ≡ length lines
as_many lane crew lines same = sym (length-map crew lanes_of) ∙ (ap length same ∙ length-map lines (lanes_at lane))

-- one agent more is closed
pub closed_more : (P : LaneHalves → Type 0) (crew rest all : List LaneHalves) (one : LaneHalves) → crew ≡ one ∷ rest → P one → (All P crew → All P all) → All P rest → All P all
closed_more P crew rest all one crew_is closed before left = before (subst (All P) (sym crew_is) (All-cons P one rest closed left))

pub none_left : (P : LaneHalves → Type 0) (crew : List LaneHalves) → length crew ≡ 0 → All P crew
none_left P crew none = λ k d inside. absurd (let nothing = none in omega arith)

-- and its half is kept for the close of the request lane
pub kept_more : (room more : List (Half Request)) (half : Half Request) (crew rest all : List LaneHalves) (one : LaneHalves) → crew ≡ one ∷ rest → half ≡ one.requests → more ≡ room ++ half ∷ [] → room ++ map (λ (halves : LaneHalves). halves.requests) crew ≡ map (λ (halves : LaneHalves). halves.requests) all → more ++ map (λ (halves : LaneHalves). halves.requests) rest ≡ map (λ (halves : LaneHalves). halves.requests) all
kept_more room more half crew rest all one crew_is end_is more_is before =
    ap (λ (it : List (Half Request)). it ++ map (λ (halves : LaneHalves). halves.requests) rest) (more_is ∙ ap (λ (it : Half Request). room ++ it ∷ []) end_is)
    ∙ (append_assoc room (one.requests ∷ []) (map (λ (halves : LaneHalves). halves.requests) rest)
    ∙ (ap (λ (it : List LaneHalves). room ++ map (λ (halves : LaneHalves). halves.requests) it) (sym crew_is) ∙ before))

pub kept_all : (room : List (Half Request)) (left all : List LaneHalves) → length left ≡ 0 → room ++ map (λ (halves : LaneHalves). halves.requests) left ≡ map (λ (halves : LaneHalves). halves.requests) all → room ≡ map (λ (halves : LaneHalves). halves.requests) all
kept_all room left all none before =
    sym (append-nil room) ∙ (ap (λ (it : List LaneHalves). room ++ map (λ (halves : LaneHalves). halves.requests) it) (sym (nil_from_length left none)) ∙ before)

-- ---- the whole crew

not_failed : (failed right : Bool) → (not failed && right) ≡ true → failed ≡ false
not_failed true right is = absurd (false≢true is)
not_failed false right is = refl

-- a collector whose agents are all gone has not failed
pub going_on : {B : Type 0} (desk : Desk B) → all_gone desk ≡ true → desk.failed ≡ false
going_on desk gone = not_failed desk.failed _ gone

-- what each agent's half has sent, once all said goodbye
pub lines_answered : {B : Type 0} (keeper : Keeper B) (before : List Exchange) (desk : Desk B) → IsDesk keeper desk → StandsAfter keeper before desk → all_gone desk ≡ true → All (λ (half : Half Answer). half.sent ≡ answers_to half.agent (history keeper before desk)) desk.answers
lines_answered keeper before desk kept stands gone k d inside =
    stands.answered (not_failed desk.failed _ gone) k d inside ∙ ap (λ (a : ℕ). answers_to a (history keeper before desk)) (sym (kept.lines k d inside))

-- all halves are of the request lane
pub of_one_lane : (lane : Identity Request) (crew : List LaneHalves) (lines : List (Half Answer)) → map lanes_of crew ≡ map (lanes_at lane) lines → All (λ (halves : LaneHalves). halves.requests.lane ≡ lane) crew
of_one_lane lane [] lines same = All-nil (λ (halves : LaneHalves). halves.requests.lane ≡ lane)
of_one_lane lane (one ∷ crew) [] same = cc
of_one_lane lane (one ∷ crew) (line ∷ lines) same =
    let both = paired lane (one ∷ crew) crew (line ∷ lines) lines one line same refl refl in
    All-cons (λ (halves : LaneHalves). halves.requests.lane ≡ lane) one crew (ap (λ (place : AgentLanes). place.asks) both.0) (of_one_lane lane crew lines both.1)

pub room_of_one_lane : (lane : Identity Request) (crew : List LaneHalves) (lines : List (Half Answer)) (room : List (Half Request)) → map lanes_of crew ≡ map (lanes_at lane) lines → room ≡ map (λ (halves : LaneHalves). halves.requests) crew → All (λ (half : Half Request). half.lane ≡ lane) room
room_of_one_lane lane crew lines room same room_is =
    subst (All (λ (half : Half Request). half.lane ≡ lane)) (sym room_is) (to_map (λ (half : Half Request). half.lane ≡ lane) (λ (halves : LaneHalves). halves.requests) crew (of_one_lane lane crew lines same))

-- the agents of a crew are those that the collector answers
same_agents : (lane : Identity Request) (crew : List LaneHalves) (lines : List (Half Answer)) → map lanes_of crew ≡ map (lanes_at lane) lines → map (λ (halves : LaneHalves). halves.requests.agent) crew ≡ map (λ (half : Half Answer). half.agent) lines
same_agents lane crew lines same =
    sym (map-map (λ (place : AgentLanes). place.agent) lanes_of crew) ∙ (ap (map (λ (place : AgentLanes). place.agent)) same ∙ map-map (λ (place : AgentLanes). place.agent) (lanes_at lane) lines)

-- the agents of a crew are few
all_small : {B : Type 0} (keeper : Keeper B) (desk : Desk B) (crew : List LaneHalves) → IsDesk keeper desk → AreCrew crew desk → All (λ (halves : LaneHalves). halves.requests.agent < most_agents) crew
all_small keeper desk crew kept same k d inside =
    let many = as_many desk.requests.lane crew desk.answers same in
    let line : Half Answer = first_half desk.answers k (omega (arith, inside)) in
    let here : (slice_index_or crew k d).requests.agent ≡ k =
    sym (get_or-map (λ (halves : LaneHalves). halves.requests.agent) crew k d k inside)
    ∙ (ap (λ (agents : List ℕ). slice_index_or agents k k) (same_agents desk.requests.lane crew desk.answers same)
    ∙ (get_or-map (λ (half : Half Answer). half.agent) desk.answers k line k (omega (arith, inside)) ∙ kept.lines k line (omega (arith, inside)))) in
    let few = kept.few in omega (arith, inside, here)

-- each agent was heard
pub all_heard : {B : Type 0} (keeper : Keeper B) (before : List Exchange) (desk : Desk B) (crew : List LaneHalves) (room : List (Half Request)) → IsEarlier before → IsDesk keeper desk → AreCrew crew desk → All (IsAnswered (history keeper before desk)) crew → room ≡ map (λ (halves : LaneHalves). halves.requests) crew
    → All (λ (half : Half Request). IsPrefix (from_agent (λ (request : Request). request.agent) half.agent desk.requests.taken) half.sent) room → All (IsHeard keeper before desk) crew
all_heard keeper before desk crew room earlier kept same closed room_is taken k d inside =
    heard keeper before desk _ earlier (all_small keeper desk crew kept same k d inside) (closed k d inside) (from_map (λ (half : Half Request). IsPrefix (from_agent (λ (request : Request). request.agent) half.agent desk.requests.taken) half.sent) (λ (halves : LaneHalves). halves.requests) crew (subst (All (λ (half : Half Request). IsPrefix (from_agent (λ (request : Request). request.agent) half.agent desk.requests.taken) half.sent)) room_is taken) k d inside)

-- what was taken is of agents of the crew
pub all_of_crew : {B : Type 0} (keeper : Keeper B) (desk : Desk B) (crew : List LaneHalves) → IsDesk keeper desk → AreCrew crew desk → AreOf crew desk.requests.taken
all_of_crew keeper desk crew kept same =
    All-weaker (λ (request : Request). request.agent < length desk.answers) (λ (request : Request). Contains (map (λ (halves : LaneHalves). halves.requests.agent) crew) request.agent)
    (λ request inside. (
      request.agent,
      (let count = as_many desk.requests.lane crew desk.answers same in let long = length-map crew (λ (halves : LaneHalves). halves.requests.agent) in omega (arith, inside)),
      (let d : Half Answer = first_half desk.answers request.agent inside in
          ap (λ (agents : List ℕ). slice_index_or agents request.agent request.agent) (same_agents desk.requests.lane crew desk.answers same)
          ∙ (get_or-map (λ (half : Half Answer). half.agent) desk.answers request.agent d request.agent inside ∙ kept.lines request.agent d inside)),
    )) desk.requests.taken kept.mine
