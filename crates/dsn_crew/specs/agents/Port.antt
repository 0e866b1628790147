-- Ports: what a port gives, the connections that it exposes, the sessions of the agent that serves
-- them, and the result for the agent.
use Rattle.std.specs.Prelude.{◌≡◌, ◌≢◌, ℕ, ◌+◌, ◌<◌, ◌⊎◌, Bool, true, false, List, [], ◌∷◌, ◌++◌, length, filter, replicate, Option, Some, None, is_some}
use Rattle.std.specs.List.{AllZip, flat_map}
use Rattle.dsn_device.specs.Failures.{most_failures}
use Rattle.dsn_device.specs.declared.source.Source.{Ghosts as Source}
use Rattle.dsn_text.specs.FaultCode.{connection_write_code, read_failed_code}
use Rattle.dsn_outcome.specs.Request.{Body}
use Rattle.dsn_frame.specs.declared.bodies.spoken.Spoken.{Spoken}
use Rattle.dsn_frame.specs.Session.{Connection, IsSession}
use Rattle.dsn_crew.specs.declared.agents.agent_line.AgentLine.{AgentLine}
use Rattle.dsn_crew.specs.declared.agents.next_connection.Next.{Next}
use Rattle.dsn_crew.specs.declared.agents.next_connection.Next.TheVariants as next

-- how many connections an agent serves at most
abbrev pub most_connections : ℕ
most_connections = 1000000

-- ---- what a port gives

-- what a port answers, whatever stream it gives: a connection, that it is done, or that it failed
pub data Given : Type 0 where
  connection : Given
  done : Given
  failed : Given

abbrev pub given_of : {S : Type 0} → Next S → Given
given_of (next.Conn stream) = connection
given_of next.Done = done
given_of next.Failed = failed

-- an answer of a port, by what the port may give before it and after it. Before it, the port may
-- give this answer alone, and this answer followed by anything that it may give after it
pub record GivesFirst (before after : List Given → Type 0) (answer : Given) : Type 0 where
  pub alone : before (answer ∷ [])
  pub first : (rest : List Given) → after rest → before (answer ∷ rest)

-- all answers of a port that gave this number of connections, and then its last answer, if it was
-- asked once more
abbrev pub all_given : ℕ → Option Given → List Given
all_given connections None = replicate connections connection
all_given connections (Some last) = replicate connections connection ++ last ∷ []

-- the last answer of a port that gave this number of connections. It was done, or it failed, as
-- `port_failed` says, and no lane was lost. There is no last answer if a lane was lost, or if the
-- agent served as many connections as an agent may serve
abbrev pub IsLastGiven : ℕ → Bool → Bool → Option Given → Type 0
IsLastGiven connections lost port_failed None =
    (port_failed ≡ false) × ((lost ≡ true) ⊎ (connections ≡ most_connections))
IsLastGiven connections lost port_failed (Some connection) = ⊥
IsLastGiven connections lost port_failed (Some done) = (port_failed ≡ false) × (lost ≡ false)
IsLastGiven connections lost port_failed (Some failed) = (port_failed ≡ true) × (lost ≡ false)

-- what a port gave an agent with this line, by what the port may give: as many connections as the
-- line says, and then its last answer
pub record HasGiven (may_give : List Given → Type 0) (line : AgentLine) (lost : Bool)
    : Type 0 where
  pub last : Option Given
  pub gave : may_give (all_given line.connections last)
  pub ends : IsLastGiven line.connections lost line.port_failed last

-- ---- what a port exposes

-- a connection that a port exposes before it gives it: the bytes that its stream will give, and
-- whether the stream may fail. A port whose connections are known never answers `Failed`
pub record Conn : Type 0 where
  pub bytes : List ℕ
  pub may_fail : Bool

-- the stream of this connection. If it may not fail, it is steady, and its count of failures is
-- below the maximum, so that a failure would be counted
pub record IsStream {S : Type 0} (source : Source S) (conn : Conn) (stream : S) : Type 0 where
  pub bytes : source.remaining stream ≡ Some conn.bytes
  pub steady : conn.may_fail ≡ false
      → source.steady stream × (source.failures stream < most_failures)

-- what a port gives, by the connections that it exposes before and after. It gives the first of
-- them while there is one, and then it is done. A port that exposes none claims nothing, and
-- exposes none afterwards
abbrev pub Gives : {S : Type 0} → Source S → Option (List Conn) → Option (List Conn) → Next S
    → Type 0
Gives source None new given = new ≡ None
Gives source (Some []) new (next.Conn stream) = ⊥
Gives source (Some []) new next.Done = new ≡ Some []
Gives source (Some []) new next.Failed = ⊥
Gives source (Some (conn ∷ rest)) new (next.Conn stream) =
    IsStream source conn stream × (new ≡ Some rest)
Gives source (Some (conn ∷ rest)) new next.Done = ⊥
Gives source (Some (conn ∷ rest)) new next.Failed = ⊥

-- ---- the sessions over a port's connections

-- one session. `start` and `left` are what its stream had still to give at its start and at its
-- end. `frames` are the bodies of the frames that were taken, and `bodies` those that were asked.
-- `end` is the number of the session's fault, if it had one
pub record Session : Type 0 where
  pub start : Option (List ℕ)
  pub left : Option (List ℕ)
  pub frames : List (List ℕ)
  pub bodies : List Body
  pub answers : List Spoken
  pub end : Option ℕ

-- all that was asked in these sessions, and all answers, in order
abbrev pub bodies_of : List Session → List Body
bodies_of sessions = flat_map (λ (session : Session). session.bodies) sessions

abbrev pub answers_of : List Session → List Spoken
answers_of sessions = flat_map (λ (session : Session). session.answers) sessions

-- how many of these sessions ended with a fault
abbrev pub faults_of : List Session → ℕ
faults_of sessions = length (filter (λ (session : Session). is_some session.end) sessions)

-- a session of an agent with this limit, after this number of accepted requests, as the bytes of
-- its stream determine it
abbrev pub IsSessionAt : ℕ → ℕ → Session → Type 0
IsSessionAt limit accepted session =
    IsSession Connection limit accepted session.start session.left session.frames session.bodies
    session.answers session.end

-- sessions of an agent, one after another
abbrev pub AreSessions : ℕ → ℕ → List Session → Type 0
AreSessions limit accepted [] = Unit {0}
AreSessions limit accepted (session ∷ rest) =
    IsSessionAt limit accepted session × AreSessions limit (accepted + length session.bodies) rest

-- a session over this connection: over its bytes. If its stream may not fail, the session doesn't
-- end with a failed read or a failed write
pub record IsOver (conn : Conn) (session : Session) : Type 0 where
  pub bytes : session.start ≡ Some conn.bytes
  pub steady : conn.may_fail ≡ false → (session.end ≢ Some read_failed_code) × (session.end ≢ Some connection_write_code)

-- the sessions over the connections of a port that exposes them: one over each, in order, from the
-- first on. Unless a lane was lost, no connection is left, or the agent served `most_connections`.
-- The port is not said to have failed
pub record AreOverConns (conns : List Conn) (sessions : List Session)
    (lost port_failed : Bool) : Type 0 where
  pub served : List Conn
  pub left : List Conn
  pub conns_are : conns ≡ served ++ left
  pub over : AllZip IsOver served sessions
  pub all : lost ≡ false → (left ≡ []) ⊎ (length sessions ≡ most_connections)
  pub good : port_failed ≡ false

-- if a port doesn't expose its connections, nothing is claimed of its sessions
abbrev pub AreOverPort : Option (List Conn) → List Session → Bool → Bool → Type 0
AreOverPort None sessions lost port_failed = Unit {0}
AreOverPort (Some conns) sessions lost port_failed = AreOverConns conns sessions lost port_failed

-- ---- an agent that serves a port
