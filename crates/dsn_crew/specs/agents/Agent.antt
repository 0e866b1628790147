-- Agents: what contracts see of an agent and its halves, and the result of a request.
use Rattle.std.specs.Prelude.{◌≡◌, ◌≢◌, ℕ, ◌+◌, ◌<◌, ◌≤◌, Bool, true, false, List, [], ◌∷◌, ◌++◌, All, length, Some, None, Result, Ok, Err}
use Rattle.dsn_text.specs.FaultCode.{lane_lost_code, used_up_code}
use Rattle.dsn_crew.specs.lane.Halves.{Half, Out}
use Rattle.dsn_outcome.specs.Agents.{from_agent}
use Rattle.dsn_outcome.specs.Body.{body_of}
use Rattle.dsn_outcome.specs.History.{plain, replied_in}
use Rattle.dsn_outcome.specs.Request.{Request, Body, Bye}
use Rattle.dsn_outcome.specs.declared.answer.Answer.{Answer}
use Rattle.dsn_outcome.specs.declared.answer.Replied.{Replied}
use Rattle.dsn_outcome.specs.declared.answer.Reply.TheVariants.{Gone}
use Rattle.dsn_crew.specs.declared.agents.ask_fault.AskFault.{AskFault}
use Rattle.dsn_crew.specs.declared.agents.ask_fault.AskFault.TheVariants.{Limit, Lost}

-- how many requests an agent may make at most
abbrev pub most_requests : ℕ
most_requests = 1000000

abbrev pub ask_fault_code : AskFault → ℕ
ask_fault_code (Limit body) = used_up_code
ask_fault_code (Lost body) = lane_lost_code

-- an agent's two halves: the one by which it asks, and the one by which it is answered
pub record LaneHalves : Type 0 where
  pub requests : Half Request
  pub answers : Out Answer

-- an agent's next request, with this body, and the answer to it with this reply
abbrev pub request_with : LaneHalves → Body → Request
request_with halves body =
    record { agent = halves.requests.agent; number = length halves.requests.sent; body = body }

abbrev pub answer_with : LaneHalves → Replied → Answer
answer_with halves replied =
    record {
      agent = halves.requests.agent;
      number = length halves.requests.sent;
      reply = replied.reply;
      serial = replied.serial;
    }

abbrev pub sent_more : Half Request → Request → Half Request
sent_more half request =
    record { lane = half.lane; agent = half.agent; sent = half.sent ++ request ∷ [] }

abbrev pub taken_more : Out Answer → Answer → Out Answer
taken_more out answer =
    record { lane = out.lane; first = out.first; past = out.past; taken = out.taken ++ answer ∷ [] }

-- the halves once a body is sent, and once its reply has come
abbrev pub with_sent : LaneHalves → Body → LaneHalves
with_sent halves body =
    record { requests = sent_more halves.requests (request_with halves body); answers = halves.answers }

abbrev pub after_reply : LaneHalves → Body → Replied → LaneHalves
after_reply halves body replied =
    record {
      requests = sent_more halves.requests (request_with halves body);
      answers = taken_more halves.answers (answer_with halves replied);
    }

-- what both halves keep: the answer lane is the agent's own
pub record AreHalves (halves : LaneHalves) : Type 0 where
  pub first : halves.answers.first ≡ halves.requests.agent
  pub past : halves.answers.past ≡ halves.requests.agent + 1
  pub mine : from_agent (λ (answer : Answer). answer.agent) halves.requests.agent halves.answers.taken
      ≡ halves.answers.taken

-- an agent: its halves, how many requests it may make, and whether a lane was lost
pub record Agent : Type 0 where
  pub halves : LaneHalves
  pub limit : ℕ
  pub lost : Bool

-- an agent that may ask
abbrev pub MayAsk : Agent → Type 0
MayAsk agent = (agent.lost ≡ false) × (length agent.halves.requests.sent < agent.limit)

abbrev pub with_halves : Agent → LaneHalves → Agent
with_halves agent halves = record { halves = halves; limit = agent.limit; lost = agent.lost }

-- an agent that has lost a lane, with these halves
abbrev pub losing : Agent → LaneHalves → Agent
losing agent halves = record { halves = halves; limit = agent.limit; lost = true }

-- the result of an ask. An agent that has lost a lane gets `Lost` with the body at every later ask.
-- At the limit the agent gets `Limit`, and stays as it is
abbrev pub IsAsk : Agent → Body → Agent → Result Answer AskFault → Type 0
IsAsk old body new (Ok answer) =
    MayAsk old × (answer ≡ answer_with old.halves (replied_in answer))
    × (new ≡ with_halves old (after_reply old.halves body (replied_in answer)))
IsAsk old body new (Err (Lost (Some back))) =
    (old.lost ≡ false → length old.halves.requests.sent < old.limit) × (body_of back ≡ body)
    × (new ≡ losing old old.halves)
IsAsk old body new (Err (Lost None)) = MayAsk old × (new ≡ losing old (with_sent old.halves body))
IsAsk old body new (Err (Limit back)) =
    (old.lost ≡ false) × (length old.halves.requests.sent ≡ old.limit) × (body_of back ≡ body)
    × (new ≡ old)

-- no request is a goodbye
abbrev pub Stays : List Request → Type 0
Stays requests = All (λ (request : Request). request.body ≢ Bye) requests

-- what every agent keeps. It makes no more requests than it may, and `most_requests` at most. It
-- has not said goodbye. While no lane was lost, it has an answer to each request
pub record IsAgent (agent : Agent) : Type 0 where
  pub limited : length agent.halves.requests.sent ≤ agent.limit
  pub few : agent.limit ≤ most_requests
  pub stays : Stays agent.halves.requests.sent
  pub answered : agent.lost ≡ false
      → length agent.halves.answers.taken ≡ length agent.halves.requests.sent

-- the result of a goodbye. If it was heard, it is the agent's last request, and Gone is the answer
-- to it. Otherwise a lane was lost
abbrev pub IsGoodbye : Agent → Result LaneHalves AskFault → Type 0
IsGoodbye old (Ok finished) = (old.lost ≡ false) × (finished ≡ after_reply old.halves Bye (plain Gone))
IsGoodbye old (Err (Lost (Some back))) = body_of back ≡ Bye
IsGoodbye old (Err (Lost None)) = old.lost ≡ false
IsGoodbye old (Err (Limit back)) = ⊥

-- what the halves of an agent that said goodbye keep. What it sent ends with its only goodbye, what
-- it was answered ends with Gone, and it has an answer to each request
pub record IsFinished (halves : LaneHalves) : Type 0 where
  pub answered : length halves.answers.taken ≡ length halves.requests.sent
  pub before : List Request
  pub stays : Stays before
  pub bye : halves.requests.sent
      ≡ before ++ record { agent = halves.requests.agent; number = length before; body = Bye } ∷ []
  pub got : List Answer
  pub gone : halves.answers.taken
      ≡ got ++ record {
        agent = halves.requests.agent;
        number = length before;
        reply = Gone;
        serial = None;
      } ∷ []
