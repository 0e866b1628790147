-- Of private parts: the result of an exchange, of a goodbye, and of the service of a port.
use Rattle.std.specs.Prelude.{◌≡◌, Option, Some, None, Result, Ok, Err, Bool, true, false, ◌≢◌, ◌≤◌, List, All, length, ◌++◌, IfSome, [], ◌∷◌, ℕ}
use Rattle.dsn_crew.specs.agents.Agent.{LaneHalves, with_sent, answer_with, after_reply, Agent}
use Rattle.dsn_crew.specs.agents.Port.{most_connections, Given, HasGiven, Conn, Session, bodies_of, answers_of, faults_of, AreSessions, AreOverPort, all_given}
use Rattle.dsn_crew.specs.agents.Serve.{HasAsked}
use Rattle.dsn_crew.specs.declared.agents.agent_line.AgentLine.{AgentLine}
use Rattle.dsn_crew.specs.declared.agents.ask_fault.AskFault.TheVariants as asks
use Rattle.dsn_crew.specs.declared.agents.ask_fault.AskFault.TheVariants.{Limit, Lost}
use Rattle.dsn_crew.specs.declared.agents.ask_fault.AskFault.{AskFault}
use Rattle.dsn_frame.specs.declared.session.Turn.{Turn}
use Rattle.dsn_crew.specs.declared.agents.unanswered.Unanswered.{Unanswered}
use Rattle.dsn_crew.specs.declared.agents.unheard.Cause.TheVariants.{Unsent, Sent, Answered}
use Rattle.dsn_crew.specs.declared.agents.unheard.Cause.{Cause}
use Rattle.dsn_crew.specs.declared.agents.unheard.Unheard.{Unheard}
use Rattle.dsn_crew.specs.inner.PortEnd.{PortEnd}
use Rattle.dsn_device.specs.Counts.{Counts}
use Rattle.dsn_device.specs.declared.drain.Drain.{Ghosts as Drain}
use Rattle.dsn_device.specs.declared.source.Source.{Ghosts as Source}
use Rattle.dsn_frame.specs.SentAnswers.{AnswersSent}
use Rattle.dsn_frame.specs.Session.{Connection, Takes}
use Rattle.dsn_frame.specs.bodies.Spoken.{answer_bytes, answer_frames_from, told_each}
use Rattle.dsn_frame.specs.inner.Session.{end_after}
use Rattle.dsn_frame.specs.declared.bodies.spoken.Spoken.TheVariants as spoken
use Rattle.dsn_frame.specs.declared.bodies.spoken.Spoken.{Spoken}
use Rattle.dsn_outcome.specs.Body.{body_of}
use Rattle.dsn_outcome.specs.History.{replied_in, plain}
use Rattle.dsn_outcome.specs.Request.{Body, Bye}
use Rattle.dsn_outcome.specs.declared.answer.Answer.{Answer}
use Rattle.dsn_outcome.specs.declared.answer.Reply.TheVariants.{Gone}
use Rattle.dsn_outcome.specs.declared.body.Body
use Rattle.dsn_text.specs.FaultCode.{lane_lost_code, used_up_code}

-- a body that got no answer: it was not sent, and is returned; or it was sent
abbrev pub IsUnanswered : LaneHalves → Body → LaneHalves → Option Body.Body → Type 0
IsUnanswered old body new (Some back) = (body_of back ≡ body) × (new ≡ old)
IsUnanswered old body new None = new ≡ with_sent old body

-- the result of an exchange: the answer to the body, or none
abbrev pub IsExchange : LaneHalves → Body → LaneHalves → Result Answer Unanswered → Type 0
IsExchange old body new (Ok answer) =
    (answer ≡ answer_with old (replied_in answer))
    × (new ≡ after_reply old body (replied_in answer))
IsExchange old body new (Err lost) = IsUnanswered old body new lost.body

-- a goodbye that was not sent
abbrev pub is_unsent : Cause → Bool
is_unsent (Unsent gone) = true
is_unsent (Sent gone) = false
is_unsent Answered = false

abbrev pub was_unsent : Unheard → Type 0
was_unsent unheard = is_unsent unheard.cause ≡ true

-- the result of a goodbye that says why it was not heard. An agent that had lost a lane doesn't
-- send it
abbrev pub IsLeave : Agent → Result LaneHalves Unheard → Type 0
IsLeave old (Ok finished) = (old.lost ≡ false) × (finished ≡ after_reply old.halves Bye (plain Gone))
IsLeave old (Err unheard) = old.lost ≡ true → was_unsent unheard

-- the fault that a goodbye returns if it was not heard. If the body isn't returned, it was sent
abbrev pub IsFaultOf : Unheard → AskFault → Type 0
IsFaultOf unheard (Limit back) = ⊥
IsFaultOf unheard (Lost (Some back)) = body_of back ≡ Bye
IsFaultOf unheard (Lost None) = is_unsent unheard.cause ≡ false

-- the result of serving the connections of a port, up to the goodbye: what the port gave, and these
-- sessions, one over each connection. The agent asked what the sessions asked, and got the replies
-- among their answers, in order; its line counts them. If it lost no lane, no session ended with
-- that
pub record HasServed (conns : Option (List Conn)) (may_give : List Given → Type 0)
    (old new : Agent)
    (line : AgentLine) : Type 0 where
  pub sessions : List Session
  pub lost : Bool
  pub follow : AreSessions old.limit (length old.halves.requests.sent) sessions
  pub over : AreOverPort conns sessions lost line.port_failed
  pub gave : HasGiven may_give line lost
  pub asked : HasAsked old new (bodies_of sessions) (answers_of sessions) lost
  pub heard : lost ≡ false → All (λ (session : Session). session.end ≢ Some lane_lost_code) sessions
  pub few : length sessions ≤ most_connections
  pub requests : line.requests ≡ length new.halves.requests.sent
  pub connections : line.connections ≡ length sessions
  pub faults : line.faults ≡ faults_of sessions

-- the same, and the port was asked for nothing else: whatever it may give now, it may have given
-- after all these answers
pub record HasServedOnly (conns : Option (List Conn)) (may_give may_now : List Given → Type 0)
    (old new : Agent)
    (line : AgentLine) : Type 0 where
  pub served : HasServed conns may_give old new line
  pub only : (rest : List Given)
      → may_now rest → may_give (all_given line.connections served.gave.last ++ rest)

-- the result of serving a port: its connections were served, as the line says, and then the agent
-- said goodbye. It has finished only if it lost no lane, and its goodbye was answered Gone
pub record IsPortServed (conns : Option (List Conn)) (may_give : List Given → Type 0)
    (agent : Agent) (end : PortEnd) : Type 0 where
  pub last : Agent
  pub served : HasServed conns may_give agent last end.line
  pub goodbye : IfSome end.finished
      (λ (finished : LaneHalves). (served.lost ≡ false) × (finished ≡ after_reply last.halves Bye (plain Gone)))

-- the turn of a frame whose body was asked; none if the collector is gone
abbrev pub asked_turn : Result Answer AskFault → Option Turn
asked_turn (Ok answer) = Some (record { answer = spoken.Reply (replied_in answer); over = false })
asked_turn (Err (asks.Limit body)) = Some (record { answer = spoken.Refused used_up_code; over = false })
asked_turn (Err (asks.Lost back)) = None

-- the answers to one frame; empty if the collector is gone
abbrev pub answer_in : Option Turn → List Spoken
answer_in None = []
answer_in (Some turn) = turn.answer ∷ []

-- the number with which one frame ends the session, if it does
abbrev pub turn_end : Option Turn → Option ℕ
turn_end None = Some lane_lost_code
turn_end (Some turn) = end_after turn.over

abbrev pub has_lost : Option Turn → Bool
has_lost None = true
has_lost (Some turn) = false

-- the turn of the frame at this place, and the agent after it
pub record IsTurn (old new : Agent) (place : ℕ) (bytes : List ℕ) (turn : Option Turn) : Type 0 where
  pub bodies : List Body
  pub takes : Takes Connection old.limit (length old.halves.requests.sent) place bytes bodies
      (answer_in turn) (turn_end turn)
  pub asked : HasAsked old new bodies (answer_in turn) (has_lost turn)

-- what an agent answered in a session: these bodies were asked, and the frames of the answers are
-- in the stream. `gone` says whether the collector was found gone, `unwritten` whether the last
-- frame was lost, and `failed` whether the stream failed
pub record HasAnswered {S : Type 0} (source : Source S) (drain : Drain S) (old new : Agent)
    (before after : S) (frames : List (List ℕ)) (bodies : List Body) (answers : List Spoken)
    (gone unwritten failed : Bool) : Type 0 where
  pub asked : HasAsked old new bodies answers gone
  pub written : AnswersSent answer_bytes answer_frames_from unwritten (drain.contents before)
      (drain.contents after) (told_each frames answers)
  pub counts : Counts source.failures drain.flushes source.steady failed before after
