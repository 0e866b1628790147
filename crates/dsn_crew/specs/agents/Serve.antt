-- Sessions of an agent: the result of serving one connection, the agent after it, and the frames of
-- the answers.
use Rattle.std.specs.Prelude.{◌≡◌, ◌≢◌, ℕ, suc, Bool, true, false, ◌||◌, ◌⊎◌, List, [], ◌∷◌, ◌++◌, All, length, Result, IfOk}
use Rattle.std.specs.List.{flat_map}
use Rattle.std.specs.Result.{result_err}
use Rattle.dsn_device.specs.Counts.{Counts}
use Rattle.dsn_device.specs.declared.drain.Drain.{Ghosts as Drain}
use Rattle.dsn_device.specs.declared.source.Source.{Ghosts as Source}
use Rattle.dsn_text.specs.FaultCode.{used_up_code}
use Rattle.dsn_outcome.specs.Request.{Request, Body}
use Rattle.dsn_outcome.specs.declared.answer.Answer.{Answer}
use Rattle.dsn_outcome.specs.declared.answer.Replied.{Replied}
use Rattle.dsn_frame.specs.bodies.Spoken.{answer_bytes, answer_frames_from, reply_of, told_each}
use Rattle.dsn_frame.specs.declared.bodies.spoken.Spoken.{Spoken}
use Rattle.dsn_frame.specs.declared.bodies.spoken.Spoken.TheVariants as spoken
use Rattle.dsn_frame.specs.ServeFault.{is_lost, is_stream_failed, is_unwritten, session_end}
use Rattle.dsn_frame.specs.Session.{Connection, IsSession}
use Rattle.dsn_frame.specs.SentAnswers.{AnswersSent}
use Rattle.dsn_crew.specs.agents.Agent.{Agent}
use Rattle.dsn_frame.specs.declared.serve_fault.ServeFault.{ServeFault}
use Rattle.dsn_frame.specs.declared.session.Served.{Served}

-- ---- the agent after a session

-- items made from others and from their numbers, which count up from the given one
unfoldable pub numbered_from : {A B : Type 0} → (ℕ → A → B) → ℕ → List A → List B
numbered_from make number [] = []
numbered_from make number (item ∷ rest) = make number item ∷ numbered_from make (suc number) rest

abbrev pub numbered_request : ℕ → ℕ → Body → Request
numbered_request agent number body = record { agent = agent; number = number; body = body }

abbrev pub numbered_answer : ℕ → ℕ → Replied → Answer
numbered_answer agent number replied =
    record { agent = agent; number = number; reply = replied.reply; serial = replied.serial }

-- the requests of an agent with these bodies, and the answers to an agent with these replies
abbrev pub requests_from : ℕ → ℕ → List Body → List Request
requests_from agent = numbered_from (numbered_request agent)

abbrev pub answers_from : ℕ → ℕ → List Replied → List Answer
answers_from agent = numbered_from (numbered_answer agent)

-- an agent that sent requests with these bodies, and got these replies to them, in order; and then
-- lost a lane, or not
abbrev pub after_requests : Agent → List Body → List Replied → Bool → Agent
after_requests agent bodies replies lost = record {
  halves = record {
    requests = record {
      lane = agent.halves.requests.lane;
      agent = agent.halves.requests.agent;
      sent = agent.halves.requests.sent
          ++ requests_from agent.halves.requests.agent (length agent.halves.requests.sent) bodies;
    };
    answers = record {
      lane = agent.halves.answers.lane;
      first = agent.halves.answers.first;
      past = agent.halves.answers.past;
      taken = agent.halves.answers.taken
          ++ answers_from agent.halves.requests.agent (length agent.halves.requests.sent) replies;
    };
  };
  limit = agent.limit;
  lost = agent.lost || lost;
}

-- each body that was sent has a reply; if a lane was lost, the last one may have none
abbrev pub AreReplied : Bool → ℕ → ℕ → Type 0
AreReplied false bodies replies = bodies ≡ replies
AreReplied true bodies replies = (bodies ≡ replies) ⊎ (bodies ≡ suc replies)

-- an agent that has served: it sent requests with these bodies, and got the replies among these
-- answers. If it had lost a lane before, it sent none, and answered no frame that the agent's
-- requests are used up
pub record HasAsked (old new : Agent) (bodies : List Body) (answers : List Spoken)
    (lost : Bool) : Type 0 where
  pub agent_is : new ≡ after_requests old bodies (flat_map reply_of answers) lost
  pub idle : old.lost ≡ true
      → (bodies ≡ []) × All (λ (answer : Spoken). answer ≢ spoken.Refused used_up_code) answers
  pub replied : AreReplied lost (length bodies) (length (flat_map reply_of answers))

-- ---- a session

-- the result of serving one connection. `session`: it is a session over what the stream had to
-- read. `asked`: the agent sent the requests of its bodies, and got their replies. `written`: the
-- frames of the answers are in the stream, each as its own frame's version has it. `answered`:
-- without a fault, the result counts the answers. `counts`: the stream failed once, if a failure of
-- it ended the session
pub record IsServed {S : Type 0} (source : Source S) (drain : Drain S) (old new : Agent)
    (before after : S) (result : Result Served ServeFault) : Type 0 where
  pub frames : List (List ℕ)
  pub bodies : List Body
  pub answers : List Spoken
  pub session : IsSession Connection old.limit (length old.halves.requests.sent)
      (source.remaining before) (source.remaining after) frames bodies answers (session_end Connection (result_err result))
  pub asked : HasAsked old new bodies answers (is_lost (result_err result))
  pub written : AnswersSent answer_bytes answer_frames_from (is_unwritten (result_err result))
      (drain.contents before) (drain.contents after) (told_each frames answers)
  pub answered : IfOk result (λ served. served.frames ≡ length answers)
  pub counts : Counts source.failures drain.flushes source.steady (is_stream_failed (result_err result))
      before after
