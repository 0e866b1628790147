-- Ports: an agent's service of a port begins, goes on with one more session, and ends.
use mir.Val.{bool_byte}
use Rattle.std.proofs.Common.{◌≡◌, ℕ, ◌+◌, ◌<◌, ◌≤◌, inl, inr, Bool, true, false, List, [], ◌∷◌, ◌++◌, length, replicate, refl, ap, sym, subst, ◌∙◌, append_assoc, arith}
use Rattle.std.specs.Prelude.{◌≢◌, All, Option, Some, None, Result, Ok, Err, filter, is_err, is_some}
use Rattle.std.specs.List.{AllZip, flat_map}
use Rattle.std.specs.Result.{result_ok}
use Rattle.std.proofs.lemmas.Bool.{lt-ltb, or_parts}
use Rattle.std.proofs.lemmas.Grind.{flat_map-append}
use Rattle.std.proofs.lemmas.List.{append-nil, length-append, replicate-append-replicate}
use Rattle.std.proofs.lemmas.List.Elements.{All-nil, All-push, filter-append}
use Rattle.dsn_device.specs.Failures.{counted, most_failures}
use Rattle.dsn_device.specs.declared.drain.Drain.{Ghosts as Drain}
use Rattle.dsn_device.specs.declared.source.Source.{Ghosts as Source}
use Rattle.dsn_frame.specs.declared.frame_fault.FrameFault.TheVariants as frames
use Rattle.dsn_crew.specs.agents.Agent.{Agent, LaneHalves}
use Rattle.dsn_crew.specs.inner.Agent.{IsLeave}
use Rattle.dsn_crew.specs.agents.Port.{Conn, Given, connection, done, failed, Gives, GivesFirst, IsLastGiven, AreOverConns, AreOverPort, AreSessions, IsOver, IsSessionAt, Session, all_given, answers_of, bodies_of, faults_of}
use Rattle.dsn_crew.specs.inner.Agent.{HasServed, HasServedOnly, IsPortServed}
use Rattle.dsn_crew.specs.agents.Serve.{HasAsked, IsServed}
use Rattle.dsn_frame.specs.ServeFault.{is_lost, is_stream_failed, session_end}
use Rattle.dsn_frame.specs.Session.{Connection}
use Rattle.std.specs.Result.{result_err}
use Rattle.dsn_crew.specs.declared.agents.unheard.Unheard.{Unheard}
use Rattle.dsn_crew.specs.declared.agents.agent_line.AgentLine.{AgentLine}
use Rattle.dsn_crew.specs.declared.agents.next_connection.Next.TheVariants as next
use Rattle.dsn_crew.specs.declared.agents.port.Port.{Ghosts as Port}
use Rattle.dsn_frame.specs.declared.serve_fault.ServeFault.{ServeFault}
use Rattle.dsn_frame.specs.declared.serve_fault.ServeFault.TheVariants.{Frame, WriteBack, Number, Frames, Lost}
use Rattle.dsn_frame.specs.declared.session.Served.{Served}
use Rattle.dsn_crew.proofs.agents.ServeLemmas.{sent-count, asked-nothing, asked-then}

-- ---- ends of sessions

abbrev code_or_0 : Option ℕ → ℕ
code_or_0 None = 0
code_or_0 (Some code) = code

-- a session that found the collector there doesn't end with 41
not-lost : (result : Result Served ServeFault) → is_lost (result_err result) ≡ false → session_end Connection (result_err result) ≢ Some 41
not-lost (Ok served) kept is = cc
not-lost (Err (Frame frames.NoMemory)) kept is = let never = ap code_or_0 is in omega (arith, never)
not-lost (Err (Frame frames.TooLong)) kept is = let never = ap code_or_0 is in omega (arith, never)
not-lost (Err (Frame frames.Empty)) kept is = let never = ap code_or_0 is in omega (arith, never)
not-lost (Err (Frame frames.CutShort)) kept is = let never = ap code_or_0 is in omega (arith, never)
not-lost (Err (Frame frames.Read)) kept is = let never = ap code_or_0 is in omega (arith, never)
not-lost (Err WriteBack) kept is = let never = ap code_or_0 is in omega (arith, never)
not-lost (Err Number) kept is = let never = ap code_or_0 is in omega (arith, never)
not-lost (Err Frames) kept is = let never = ap code_or_0 is in omega (arith, never)
not-lost (Err Lost) kept is = cc

-- one whose stream didn't fail doesn't end with a failed read or write
not-failed : (result : Result Served ServeFault) → is_stream_failed (result_err result) ≡ false → (session_end Connection (result_err result) ≢ Some 14) × (session_end Connection (result_err result) ≢ Some 35)
not-failed (Ok served) good = (λ is. cc, λ is. cc)
not-failed (Err (Frame frames.NoMemory)) good = (λ is. let never = ap code_or_0 is in omega (arith, never), λ is. let never = ap code_or_0 is in omega (arith, never))
not-failed (Err (Frame frames.TooLong)) good = (λ is. let never = ap code_or_0 is in omega (arith, never), λ is. let never = ap code_or_0 is in omega (arith, never))
not-failed (Err (Frame frames.Empty)) good = (λ is. let never = ap code_or_0 is in omega (arith, never), λ is. let never = ap code_or_0 is in omega (arith, never))
not-failed (Err (Frame frames.CutShort)) good = (λ is. let never = ap code_or_0 is in omega (arith, never), λ is. let never = ap code_or_0 is in omega (arith, never))
not-failed (Err (Frame frames.Read)) good = absurd (let never : true ≡ false = good in cc)
not-failed (Err WriteBack) good = absurd (let never : true ≡ false = good in cc)
not-failed (Err Number) good = (λ is. let never = ap code_or_0 is in omega (arith, never), λ is. let never = ap code_or_0 is in omega (arith, never))
not-failed (Err Frames) good = (λ is. let never = ap code_or_0 is in omega (arith, never), λ is. let never = ap code_or_0 is in omega (arith, never))
not-failed (Err Lost) good = (λ is. let never = ap code_or_0 is in omega (arith, never), λ is. let never = ap code_or_0 is in omega (arith, never))

-- a count below its maximum that stayed as it was counted no failure
still : (failed : Bool) (count : ℕ) → counted failed count ≡ count → count < most_failures → failed ≡ false
still false count same below = refl
still true count same below = absurd (let one : count + 1 ≡ count = rw (lt-ltb count most_failures below) at same in omega (arith, one))

-- ---- one session more

more-of : {A : Type 0} (part : Session → List A) (sessions : List Session) (session : Session) → flat_map part (sessions ++ session ∷ []) ≡ flat_map part sessions ++ part session
more-of part sessions session = flat_map-append part sessions (session ∷ []) ∙ ap (λ l. flat_map part sessions ++ l) (append-nil (part session))

sessions-more : (limit accepted : ℕ) (sessions : List Session) (session : Session) → AreSessions limit accepted sessions → IsSessionAt limit (accepted + length (bodies_of sessions)) session → AreSessions limit accepted (sessions ++ session ∷ [])
sessions-more limit accepted [] session are is =
    let same : accepted + 0 ≡ accepted = omega arith in
    (subst (λ n. IsSessionAt limit n session) same is, tt)
sessions-more limit accepted (first ∷ rest) session are is =
    let same : accepted + length (first.bodies ++ bodies_of rest) ≡ (accepted + length first.bodies) + length (bodies_of rest) = omega (arith, length-append first.bodies (bodies_of rest)) in
    (are.0, sessions-more limit (accepted + length first.bodies) rest session are.1 (subst (λ n. IsSessionAt limit n session) same is))

abbrev one_if : Bool → ℕ
one_if true = 1
one_if false = 0

faults-one : (session : Session) (end : Option ℕ) → session.end ≡ end → faults_of (session ∷ []) ≡ one_if (is_some end)
faults-one session None is = rw is refl
faults-one session (Some code) is = rw is refl

faults-more : (sessions : List Session) (session : Session) → faults_of (sessions ++ session ∷ []) ≡ faults_of sessions + one_if (is_some session.end)
faults-more sessions session =
    ap length (filter-append (λ (s : Session). is_some s.end) sessions (session ∷ []))
    ∙ length-append (filter (λ (s : Session). is_some s.end) sessions) (filter (λ (s : Session). is_some s.end) (session ∷ []))
    ∙ ap (λ n. faults_of sessions + n) (faults-one session session.end refl)

-- ---- the connections of a port

pairs-push : {A B : Type 0} (R : A → B → Type 0) (xs : List A) (ys : List B) (x : A) (y : B) → AllZip R xs ys → R x y → AllZip R (xs ++ x ∷ []) (ys ++ y ∷ [])
pairs-push R [] [] x y pairs is = (is, tt)
pairs-push R [] (first ∷ ys) x y pairs is = absurd pairs
pairs-push R (first ∷ xs) [] x y pairs is = absurd pairs
pairs-push R (first ∷ xs) (other ∷ ys) x y pairs is = (pairs.0, pairs-push R xs ys x y pairs.1 is)

-- some of a port's connections were served, one session over each; `now` is what the port then
-- exposes
pub record ServedConns (conns : List Conn) (sessions : List Session) (now : Option (List Conn)) : Type 0 where
  pub served : List Conn
  pub left : List Conn
  pub told : now ≡ Some left
  pub conns_are : conns ≡ served ++ left
  pub over : AllZip IsOver served sessions

abbrev pub ServedPort : Option (List Conn) → List Session → Option (List Conn) → Type 0
ServedPort None sessions now = now ≡ None
ServedPort (Some conns) sessions now = ServedConns conns sessions now

port-begun : (conns : Option (List Conn)) → ServedPort conns [] conns
port-begun None = refl
port-begun (Some conns) = record { served = []; left = conns; told = refl; conns_are = refl; over = tt }

module _ {S : Type 0} (source : Source S) where
  -- a connection was given, and served
  conns-more : (conns : List Conn) (sessions : List Session) (served left : List Conn) (new : Option (List Conn)) (stream : S) (session : Session) → conns ≡ served ++ left → AllZip IsOver served sessions
      → Gives source (Some left) new (next.Conn stream) → session.start ≡ source.remaining stream
      → (source.steady stream → source.failures stream < most_failures → (session.end ≢ Some 14) × (session.end ≢ Some 35))
      → ServedConns conns (sessions ++ session ∷ []) new
  conns-more conns sessions served [] new stream session are over gives start steady = absurd gives
  conns-more conns sessions served (conn ∷ rest) new stream session are over gives start steady = record {
    served = served ++ conn ∷ [];
    left = rest;
    told = gives.1;
    conns_are = are ∙ sym (append_assoc served (conn ∷ []) rest);
    over = pairs-push IsOver served sessions conn session over (record { bytes = start ∙ gives.0.bytes; steady = λ good. let firm = gives.0.steady good in steady firm.0 firm.1 });
  }

  port-more : (conns : Option (List Conn)) (sessions : List Session) (now new : Option (List Conn)) (stream : S) (session : Session) → ServedPort conns sessions now
      → Gives source now new (next.Conn stream) → session.start ≡ source.remaining stream
      → (source.steady stream → source.failures stream < most_failures → (session.end ≢ Some 14) × (session.end ≢ Some 35))
      → ServedPort conns (sessions ++ session ∷ []) new
  port-more None sessions now new stream session so_far gives start steady = subst (λ told. Gives source told new (next.Conn stream)) so_far gives
  port-more (Some conns) sessions now new stream session so_far gives start steady =
      conns-more conns sessions so_far.served so_far.left new stream session so_far.conns_are so_far.over (subst (λ told. Gives source told new (next.Conn stream)) so_far.told gives) start steady

  -- the port was done
  conns-done : (conns : List Conn) (sessions : List Session) (served left : List Conn) (new : Option (List Conn)) → conns ≡ served ++ left → AllZip IsOver served sessions
      → Gives source (Some left) new next.Done → AreOverConns conns sessions false false
  conns-done conns sessions served [] new are over gives = record { served = served; left = []; conns_are = are; over = over; all = λ _. inl refl; good = refl }
  conns-done conns sessions served (conn ∷ rest) new are over gives = absurd gives

  pub port-done : (conns : Option (List Conn)) (sessions : List Session) (now new : Option (List Conn)) → ServedPort conns sessions now → Gives source now new next.Done → AreOverPort conns sessions false false
  port-done None sessions now new so_far gives = tt
  port-done (Some conns) sessions now new so_far gives =
      conns-done conns sessions so_far.served so_far.left new so_far.conns_are so_far.over (subst (λ told. Gives source told new next.Done) so_far.told gives)

  -- a port that failed doesn't expose its connections
  conns-failed : (left : List Conn) (new : Option (List Conn)) → Gives source (Some left) new next.Failed → ⊥
  conns-failed [] new gives = gives
  conns-failed (conn ∷ rest) new gives = gives

  pub port-failed : (conns : Option (List Conn)) (sessions : List Session) (now new : Option (List Conn)) → ServedPort conns sessions now → Gives source now new next.Failed → AreOverPort conns sessions false true
  port-failed None sessions now new so_far gives = tt
  port-failed (Some conns) sessions now new so_far gives = absurd (conns-failed so_far.left new (subst (λ told. Gives source told new next.Failed) so_far.told gives))

-- as many connections were served as an agent serves
pub port-full : (conns : Option (List Conn)) (sessions : List Session) (now : Option (List Conn)) → ServedPort conns sessions now → length sessions ≡ 1000000 → AreOverPort conns sessions false false
port-full None sessions now so_far full = tt
port-full (Some conns) sessions now so_far full = record { served = so_far.served; left = so_far.left; conns_are = so_far.conns_are; over = so_far.over; all = λ _. inr full; good = refl }

-- a lane was lost
pub port-lost : (conns : Option (List Conn)) (sessions : List Session) (now : Option (List Conn)) → ServedPort conns sessions now → AreOverPort conns sessions true false
port-lost None sessions now so_far = tt
port-lost (Some conns) sessions now so_far = record { served = so_far.served; left = so_far.left; conns_are = so_far.conns_are; over = so_far.over; all = λ kept. absurd (let never : true ≡ false = kept in cc); good = refl }

-- ---- what a port gave

-- one connection more
one-more : (count : ℕ) (rest : List Given) → replicate (count + 1) connection ++ rest ≡ replicate count connection ++ connection ∷ rest
one-more count rest = ap (λ (given : List Given). given ++ rest) (sym (replicate-append-replicate count 1 connection)) ∙ append_assoc (replicate count connection) (connection ∷ []) rest

-- the port gave `count` connections; whatever it may give from now on, it may have given after them
abbrev pub GivenSoFar : (List Given → Type 0) → (List Given → Type 0) → ℕ → Type 0
GivenSoFar may_give may_now count = (rest : List Given) → may_now rest → may_give (replicate count connection ++ rest)

given-more : (may_give may_now may_then : List Given → Type 0) (count : ℕ) → GivenSoFar may_give may_now count → GivesFirst may_now may_then connection → GivenSoFar may_give may_then (count + 1)
given-more may_give may_now may_then count so_far gives rest may = subst may_give (sym (one-more count rest)) (so_far (connection ∷ rest) (gives.first rest may))

-- all that the port gave is this, whatever it may give from now on
record GivenAll (may_give may_now : List Given → Type 0) (count : ℕ) (last : Option Given) : Type 0 where
  pub alone : may_give (all_given count last)
  pub before : (rest : List Given) → may_now rest → may_give (all_given count last ++ rest)

-- with its last answer
given-last : (may_give may_now may_then : List Given → Type 0) (count : ℕ) (last : Given) → GivenSoFar may_give may_now count → GivesFirst may_now may_then last → GivenAll may_give may_then count (Some last)
given-last may_give may_now may_then count last so_far gives = record {
  alone = so_far (last ∷ []) gives.alone;
  before = λ rest may. subst may_give (sym (append_assoc (replicate count connection) (last ∷ []) rest)) (so_far (last ∷ rest) (gives.first rest may));
}

-- it was asked no more
given-alone : (may_give may_now : List Given → Type 0) (count : ℕ) → GivenSoFar may_give may_now count → may_now (connection ∷ []) → may_give (all_given (count + 1) None)
given-alone may_give may_now count so_far alone = subst may_give (replicate-append-replicate count 1 connection) (so_far (connection ∷ []) alone)

-- ---- the agent

module _ {P T : Type 0} (port : Port P T) (start : P) (old : Agent) where
  -- `count` connections were served, and nothing ended the service; `now` is the port then
  pub record ServesSoFar (now : P) (agent : Agent) (line : AgentLine) (count : ℕ) : Type 0 where
    pub sessions : List Session
    pub follow : AreSessions old.limit (length old.halves.requests.sent) sessions
    pub over : ServedPort (port.conns start) sessions (port.conns now)
    pub gave : GivenSoFar (port.may_give start) (port.may_give now) count
    pub given : 0 < count → port.may_give start (all_given count None)
    pub goes_on : port.may_be_asked now
    pub asked : HasAsked old agent (bodies_of sessions) (answers_of sessions) false
    pub heard : All (λ (session : Session). session.end ≢ Some 41) sessions
    pub counted : length sessions ≡ count
    pub requests : line.requests ≡ length agent.halves.requests.sent
    pub connections : line.connections ≡ count
    pub faults : line.faults ≡ faults_of sessions
    pub fewer : line.faults ≤ count
    pub good : line.port_failed ≡ false

  abbrev pub Serves : P → Agent → AgentLine → Type 0
  Serves now new line = HasServedOnly (port.conns start) (port.may_give start) (port.may_give now) old new line

-- no connection was served so far
pub serves_nothing : {P T : Type 0} (port : Port P T) (start : P) (agent : Agent) (requests : ℕ) → requests ≡ length agent.halves.requests.sent
    → port.may_be_asked start → ServesSoFar port start agent start agent (record { requests = requests; connections = 0; faults = 0; port_failed = false }) 0
serves_nothing port start agent requests is goes_on = record {
  sessions = [];
  follow = tt;
  over = port-begun (port.conns start);
  gave = λ rest may. may;
  given = λ is. absurd (let never : ⊥ = omega (arith, is) in never);
  goes_on = goes_on;
  asked = asked-nothing agent;
  heard = All-nil (λ (session : Session). session.end ≢ Some 41);
  counted = refl;
  requests = is;
  connections = refl;
  faults = refl;
  fewer = omega arith;
  good = refl;
}

-- a line that counts what this one does, with this value for whether the port failed
pub record IsLine (line : AgentLine) (told : Bool) (then : AgentLine) : Type 0 where
  pub requests : then.requests ≡ line.requests
  pub connections : then.connections ≡ line.connections
  pub faults : then.faults ≡ line.faults
  pub port_failed : then.port_failed ≡ told

module _ {P T : Type 0} (port : Port P T) (start : P) (old : Agent) (now : P) (agent : Agent) (line : AgentLine) (count : ℕ) (so_far : ServesSoFar port start old now agent line count) (most : count ≤ 1000000) where
  -- the line, with this value for whether the port failed
  abbrev line-with : Bool → AgentLine
  line-with told = record { requests = line.requests; connections = line.connections; faults = line.faults; port_failed = told }

  -- the service ends: the port gave no connection, or as many were served as may be
  serves-end : (end : P) (told : Bool) (last : Option Given) → AreOverPort (port.conns start) so_far.sessions false told → GivenAll (port.may_give start) (port.may_give end) count last → IsLastGiven count false told last → Serves port start old end agent (line-with told)
  serves-end end told last over gave ends = record {
    served = record {
      sessions = so_far.sessions;
      lost = false;
      follow = so_far.follow;
      over = over;
      gave = record {
        last = last;
        gave = subst (λ (n : ℕ). port.may_give start (all_given n last)) (sym so_far.connections) gave.alone;
        ends = subst (λ (n : ℕ). IsLastGiven n false told last) (sym so_far.connections) ends;
      };
      asked = so_far.asked;
      heard = λ _. so_far.heard;
      few = omega (arith, so_far.counted, most);
      requests = so_far.requests;
      connections = so_far.connections ∙ sym so_far.counted;
      faults = so_far.faults;
    };
    only = λ rest may. subst (λ (n : ℕ). port.may_give start (all_given n last ++ rest)) (sym so_far.connections) (gave.before rest may);
  }

  -- and a line that is this one
  serves-told : (end : P) (told : Bool) (last : Option Given) (then : AgentLine) → IsLine line told then → AreOverPort (port.conns start) so_far.sessions false told → GivenAll (port.may_give start) (port.may_give end) count last → IsLastGiven count false told last → Serves port start old end agent then
  serves-told end told last then same over gave ends =
      let is : line-with told ≡ then = λ i. record { requests = sym same.requests i; connections = sym same.connections i; faults = sym same.faults i; port_failed = sym same.port_failed i } in
      subst (Serves port start old end agent) is (serves-end end told last over gave ends)

  pub serves-full : 1000000 ≤ count → Serves port start old now agent line
  serves-full full =
      let all : count ≡ 1000000 = omega (arith, most, full) in
      serves-told now false None line (record { requests = refl; connections = refl; faults = refl; port_failed = so_far.good }) (port-full (port.conns start) so_far.sessions (port.conns now) so_far.over (so_far.counted ∙ all))
      (record { alone = so_far.given (omega (arith, all)); before = so_far.gave }) (refl, inr all)

  module _ {S : Type 0} (source : Source S) (new : P) where
    pub serves-done : (then : AgentLine) → IsLine line false then → Gives source (port.conns now) (port.conns new) next.Done → GivesFirst (port.may_give now) (port.may_give new) done → Serves port start old new agent then
    serves-done then same gives given =
        serves-told new false (Some done) then same (port-done source (port.conns start) so_far.sessions (port.conns now) (port.conns new) so_far.over gives)
        (given-last (port.may_give start) (port.may_give now) (port.may_give new) count done so_far.gave given) (refl, refl)

    pub serves-failed : (then : AgentLine) → IsLine line true then → Gives source (port.conns now) (port.conns new) next.Failed → GivesFirst (port.may_give now) (port.may_give new) failed → Serves port start old new agent then
    serves-failed then same gives given =
        serves-told new true (Some failed) then same (port-failed source (port.conns start) so_far.sessions (port.conns now) (port.conns new) so_far.over gives)
        (given-last (port.may_give start) (port.may_give now) (port.may_give new) count failed so_far.gave given) (refl, refl)

is-fault : (result : Result Served ServeFault) → is_some (session_end Connection (result_err result)) ≡ is_err result
is-fault (Ok served) = refl
is-fault (Err fault) = refl

-- a truth value as a number
pub byte_most : (b : Bool) → bool_byte b ≤ 1
byte_most true = omega arith
byte_most false = omega arith

byte_is : (b : Bool) → bool_byte b ≡ one_if b
byte_is true = refl
byte_is false = refl

module _ {P T S : Type 0} (source : Source S) (drain : Drain S) (port : Port P T) (start : P) (old : Agent) (now new : P) (agent then : Agent) (line : AgentLine) (count requests connections faults : ℕ) (given stream after : S) (result : Result Served ServeFault)
    (so_far : ServesSoFar port start old now agent line count) (gives : Gives source (port.conns now) (port.conns new) (next.Conn given)) (stream_is : stream ≡ given) (first : GivesFirst (port.may_give now) (port.may_give new) connection) (goes_on : port.may_be_asked new) (served : IsServed source drain agent then stream after result)
    (few : count < 1000000) (requests_are : requests ≡ length then.halves.requests.sent) (connections_are : connections ≡ line.connections + 1) (faults_are : faults ≡ line.faults + bool_byte (is_err result)) where
  session : Session
  session = record {
    start = source.remaining stream;
    left = source.remaining after;
    frames = served.frames;
    bodies = served.bodies;
    answers = served.answers;
    end = session_end Connection (result_err result);
  }

  all : List Session
  all = so_far.sessions ++ session ∷ []

  all-follow : AreSessions old.limit (length old.halves.requests.sent) all
  unfolding all session
  all-follow =
      let limit_is : agent.limit ≡ old.limit = ap (λ (a : Agent). a.limit) so_far.asked.agent_is in
      let count_is = sent-count old agent (bodies_of so_far.sessions) (answers_of so_far.sessions) false so_far.asked in
      sessions-more old.limit (length old.halves.requests.sent) so_far.sessions session so_far.follow
      (subst (λ l. IsSessionAt l (length old.halves.requests.sent + length (bodies_of so_far.sessions)) session) limit_is
      (subst (λ n. IsSessionAt agent.limit n session) count_is served.session))

  all-asked : HasAsked old then (bodies_of all) (answers_of all) (is_lost (result_err result))
  unfolding all session
  all-asked =
      subst (λ bodies. HasAsked old then bodies (answers_of all) (is_lost (result_err result))) (sym (more-of (λ (s : Session). s.bodies) so_far.sessions session))
      (subst (λ answers. HasAsked old then (bodies_of so_far.sessions ++ served.bodies) answers (is_lost (result_err result))) (sym (more-of (λ (s : Session). s.answers) so_far.sessions session))
      (asked-then old agent then (bodies_of so_far.sessions) served.bodies (answers_of so_far.sessions) served.answers (is_lost (result_err result)) so_far.asked served.asked))

  all-over : ServedPort (port.conns start) all (port.conns new)
  unfolding all session
  all-over = port-more source (port.conns start) so_far.sessions (port.conns now) (port.conns new) stream session so_far.over (rw (← stream_is) at gives) refl
      (λ steady below. not-failed result (still (is_stream_failed (result_err result)) (source.failures stream) (sym served.counts.count ∙ (served.counts.stays_steady steady).1) below))

  all-faults : faults ≡ faults_of all
  unfolding all session
  all-faults = faults_are ∙ (ap (λ n. line.faults + n) (byte_is (is_err result)) ∙ (ap (λ n. n + one_if (is_err result)) so_far.faults ∙ (ap (λ b. faults_of so_far.sessions + one_if b) (sym (is-fault result)) ∙ sym (faults-more so_far.sessions session))))

  all-counted : length all ≡ count + 1
  unfolding all
  all-counted = omega (arith, so_far.counted, length-append so_far.sessions (session ∷ []))

  now-connections : connections ≡ count + 1
  now-connections = omega (arith, connections_are, so_far.connections)

  all-gave : GivenSoFar (port.may_give start) (port.may_give new) (count + 1)
  all-gave = given-more (port.may_give start) (port.may_give now) (port.may_give new) count so_far.gave first

  all-given : port.may_give start (all_given (count + 1) None)
  all-given = given-alone (port.may_give start) (port.may_give now) count so_far.gave first.alone

  -- one more connection was served
  pub serves-more : is_lost (result_err result) ≡ false → ServesSoFar port start old new then (record { requests = requests; connections = connections; faults = faults; port_failed = false }) (count + 1)
  unfolding all session
  serves-more kept = record {
    sessions = all;
    follow = all-follow;
    over = all-over;
    gave = all-gave;
    given = λ some. all-given;
    goes_on = goes_on;
    asked = subst (HasAsked old then (bodies_of all) (answers_of all)) kept all-asked;
    heard = All-push (λ (s : Session). s.end ≢ Some 41) so_far.sessions session so_far.heard (not-lost result kept);
    counted = all-counted;
    requests = requests_are;
    connections = now-connections;
    faults = all-faults;
    fewer = omega (arith, faults_are, so_far.fewer, byte_most (is_err result));
    good = refl;
  }

  -- the collector was found gone
  pub serves-lost : is_lost (result_err result) ≡ true → Serves port start old new then (record { requests = requests; connections = connections; faults = faults; port_failed = false })
  serves-lost gone = record {
    served = record {
      sessions = all;
      lost = true;
      follow = all-follow;
      over = port-lost (port.conns start) all (port.conns new) all-over;
      gave = record {
        last = None;
        gave = subst (λ (n : ℕ). port.may_give start (all_given n None)) (sym now-connections) all-given;
        ends = (refl, inl refl);
      };
      asked = subst (HasAsked old then (bodies_of all) (answers_of all)) gone all-asked;
      heard = λ kept. absurd (let never : true ≡ false = kept in cc);
      few = omega (arith, all-counted, few);
      requests = requests_are;
      connections = now-connections ∙ sym all-counted;
      faults = all-faults;
    };
    only = λ rest may. subst (λ (n : ℕ). port.may_give start (all_given n None ++ rest)) (sym now-connections) (all-gave rest may);
  }

-- the agent says goodbye, or a lane is lost
pub service-ends : (conns : Option (List Conn)) (may_give : List Given → Type 0) (agent last : Agent) (line : AgentLine) → HasServed conns may_give agent last line → (result : Result LaneHalves Unheard) → IsLeave last result
    → IsPortServed conns may_give agent (record { line = line; finished = result_ok result })
service-ends conns may_give agent last line served (Ok finished) bye = record {
  last = last;
  served = served;
  goodbye = ((or_parts agent.lost served.lost (sym (ap (λ (a : Agent). a.lost) served.asked.agent_is) ∙ bye.0)).1, bye.1);
}
service-ends conns may_give agent last line served (Err unheard) bye = record { last = last; served = served; goodbye = tt }

-- ---- what follows for an agent that was heard
