-- Sessions of an agent: what one frame adds to the agent that serves.
use Rattle.std.proofs.Common.{◌≡◌, ◌≢◌, ℕ, suc, ◌+◌, ◌≤◌, lit≤, inl, inr, Bool, true, false, All, List, [], ◌∷◌, ◌++◌, length, refl, ap, sym, subst, ◌∙◌, append_assoc, arith}
use Rattle.std.specs.Prelude.{Some, None, Result, Ok, Err, ◌||◌, is_some}
use Rattle.std.specs.List.{flat_map}
use Rattle.std.proofs.lemmas.Grind.{flat_map-append}
use Rattle.std.proofs.lemmas.List.Elements.{All-append, All-cons, All-nil}
use Rattle.std.proofs.lemmas.List.{append-nil, length-append}
use Rattle.dsn_outcome.specs.History.{replied_in}
use Rattle.dsn_outcome.specs.Request.{Request, Body}
use Rattle.dsn_outcome.specs.declared.answer.Answer.{Answer}
use Rattle.dsn_outcome.specs.OutcomeFault.{outcome_fault_code}
use Rattle.dsn_outcome.specs.declared.outcome_fault.OutcomeFault.{OutcomeFault}
use Rattle.dsn_outcome.specs.declared.outcome_fault.OutcomeFault.TheVariants as outcome
use Rattle.dsn_frame.specs.bodies.BodyFault.{body_fault_code}
use Rattle.dsn_frame.specs.declared.bodies.body_fault.BodyFault.{BodyFault}
use Rattle.dsn_frame.specs.declared.bodies.body_fault.BodyFault.TheVariants as faults
use Rattle.dsn_frame.specs.bodies.Request.{Encodes}
use Rattle.dsn_frame.specs.bodies.Spoken.{reply_of}
use Rattle.dsn_frame.specs.declared.bodies.spoken.Spoken.{Spoken}
use Rattle.dsn_frame.specs.declared.bodies.spoken.Spoken.TheVariants as spoken
use Rattle.dsn_frame.specs.Refusal.{refusal_code, refusal_end}
use Rattle.dsn_frame.specs.Session.{Connection, Takes, asked, used_up, given_up, given_up_after}
use Rattle.dsn_frame.specs.declared.refusal.Refusal.{Refusal}
use Rattle.dsn_frame.specs.declared.refusal.Refusal.TheVariants as refusals
use Rattle.dsn_crew.specs.agents.Agent.{Agent, IsAsk}
use Rattle.dsn_crew.specs.agents.Serve.{numbered_answer, numbered_from, numbered_request, requests_from, answers_from, after_requests, AreReplied, HasAsked}
use Rattle.dsn_crew.specs.inner.Agent.{asked_turn, IsTurn}
use Rattle.dsn_crew.specs.declared.agents.ask_fault.AskFault.{AskFault}
use Rattle.dsn_crew.specs.declared.agents.ask_fault.AskFault.TheVariants.{Limit, Lost}

-- ---- numbered items

numbered-append : {A B : Type 0} (make : ℕ → A → B) (number : ℕ) (xs ys : List A) → numbered_from make number (xs ++ ys) ≡ numbered_from make number xs ++ numbered_from make (number + length xs) ys
unfolding numbered_from
numbered-append make number [] ys =
    let same : number + 0 ≡ number = omega arith in
    rw same refl
numbered-append make number (x ∷ xs) ys =
    let same : suc number + length xs ≡ number + suc (length xs) = omega arith in
    rw (numbered-append make (suc number) xs ys, same) refl

pub numbered-length : {A B : Type 0} (make : ℕ → A → B) (number : ℕ) (xs : List A) → length (numbered_from make number xs) ≡ length xs
unfolding numbered_from
numbered-length make number [] = refl
numbered-length make number (x ∷ xs) = ap (λ (n : ℕ). suc n) (numbered-length make (suc number) xs)

-- more of them follow on
numbered-then : {A B : Type 0} (make : ℕ → A → B) (before : List B) (number next : ℕ) (xs ys : List A) → next ≡ number + length xs → (before ++ numbered_from make number xs) ++ numbered_from make next ys ≡ before ++ numbered_from make number (xs ++ ys)
numbered-then make before number next xs ys is =
    append_assoc before (numbered_from make number xs) (numbered_from make next ys)
    ∙ ap (λ l. before ++ l) (ap (λ n. numbered_from make number xs ++ numbered_from make n ys) is ∙ sym (numbered-append make number xs ys))

numbered-none : {A B : Type 0} (make : ℕ → A → B) (before : List B) (number : ℕ) → before ++ numbered_from make number [] ≡ before
unfolding numbered_from
numbered-none make before number = append-nil before

numbered-one : {A B : Type 0} (make : ℕ → A → B) (before : List B) (number : ℕ) (x : A) → before ++ numbered_from make number (x ∷ []) ≡ before ++ make number x ∷ []
unfolding numbered_from
numbered-one make before number x = refl

-- ---- refusals

-- no body is refused by a number beyond 30
outcome_few : (fault : OutcomeFault) → outcome_fault_code fault ≤ 30
outcome_few outcome.BadRecipient = lit≤ tt
outcome_few outcome.BadOriginal = lit≤ tt
outcome_few outcome.BadAction = lit≤ tt
outcome_few outcome.BadStatus = lit≤ tt
outcome_few outcome.StatusClass = lit≤ tt
outcome_few outcome.BadMta = lit≤ tt
outcome_few outcome.LongDiagnostic = lit≤ tt
outcome_few outcome.LongReason = lit≤ tt
outcome_few outcome.RetryUntil = lit≤ tt
outcome_few outcome.RecipientType = lit≤ tt
outcome_few outcome.OriginalType = lit≤ tt
outcome_few outcome.DiagnosticType = lit≤ tt
outcome_few outcome.Extension = lit≤ tt
outcome_few outcome.NoMemory = lit≤ tt

body_few : (fault : BodyFault) → body_fault_code fault ≤ 30
body_few faults.Version = lit≤ tt
body_few faults.Kind = lit≤ tt
body_few faults.Short = lit≤ tt
body_few faults.Extra = lit≤ tt
body_few faults.Service = lit≤ tt
body_few faults.QueueId = lit≤ tt
body_few faults.Moment = lit≤ tt
body_few faults.Header = lit≤ tt
body_few faults.ReturnPath = lit≤ tt
body_few faults.EnvelopeId = lit≤ tt
body_few faults.Returned = lit≤ tt
body_few faults.Wording = lit≤ tt
body_few faults.Extensions = lit≤ tt
body_few faults.NoMemory = lit≤ tt
body_few (faults.Outcome fault) = outcome_few fault

refusal_apart : (refusal : Refusal) → refusal_code refusal ≢ 44
refusal_apart (refusals.Body fault) same = absurd (let few = body_few fault in omega arith)
refusal_apart refusals.OutOfTurn same = absurd (omega arith)

-- one refusal, with another number than 44
one_apart : (code : ℕ) → code ≢ 44 → All (λ (answer : Spoken). answer ≢ spoken.Refused 44) (spoken.Refused code ∷ [])
one_apart code apart = All-cons (λ (answer : Spoken). answer ≢ spoken.Refused 44) (spoken.Refused code) [] (λ same. apart cc) (All-nil (λ (answer : Spoken). answer ≢ spoken.Refused 44))

-- ---- the agent

or-false : (b : Bool) → (b || false) ≡ b
or-false false = refl
or-false true = refl

or-true : (b : Bool) → (b || true) ≡ true
or-true false = refl
or-true true = refl

never : {A : Type 0} (b : Bool) → b ≡ false → b ≡ true → A
never b off on = absurd (let bad : false ≡ true = sym off ∙ on in cc)

-- an agent with these lists, which is lost or not
abbrev with_lists : Agent → List Request → List Answer → Bool → Agent
with_lists agent sent taken lost = record {
  halves = record {
    requests = record { lane = agent.halves.requests.lane; agent = agent.halves.requests.agent; sent = sent };
    answers = record { lane = agent.halves.answers.lane; first = agent.halves.answers.first; past = agent.halves.answers.past; taken = taken };
  };
  limit = agent.limit;
  lost = lost;
}

-- the lists of an agent that asked nothing are as they were
nothing-more : (agent : Agent) → agent ≡ after_requests agent [] [] false
nothing-more agent =
    λ i. with_lists agent
    (sym (numbered-none (numbered_request agent.halves.requests.agent) agent.halves.requests.sent (length agent.halves.requests.sent)) i)
    (sym (numbered-none (numbered_answer agent.halves.requests.agent) agent.halves.answers.taken (length agent.halves.requests.sent)) i)
    (sym (or-false agent.lost) i)

-- nothing was asked so far
pub asked-nothing : (agent : Agent) → HasAsked agent agent [] [] false
asked-nothing agent = record { agent_is = nothing-more agent; idle = λ _. (refl, All-nil (λ (answer : Spoken). answer ≢ spoken.Refused 44)); replied = refl }

-- a refusal asks nothing
asked-refused : (agent : Agent) (code : ℕ) → (agent.lost ≡ true → code ≢ 44) → HasAsked agent agent [] (spoken.Refused code ∷ []) false
asked-refused agent code apart = record { agent_is = nothing-more agent; idle = λ was. (refl, one_apart code (apart was)); replied = refl }

replied-then : (lost : Bool) (b c r s : ℕ) → b ≡ r → AreReplied lost c s → AreReplied lost (b + c) (r + s)
replied-then false b c r s first then = omega (arith, first, then)
replied-then true b c r s first (inl then) = inl (omega (arith, first, then))
replied-then true b c r s first (inr then) = inr (omega (arith, first, then))

-- how many requests the agent has sent by then
pub sent-count : (old new : Agent) (bodies : List Body) (answers : List Spoken) (lost : Bool) → HasAsked old new bodies answers lost → length new.halves.requests.sent ≡ length old.halves.requests.sent + length bodies
sent-count old new bodies answers lost has =
    let sent = ap (λ (a : Agent). length a.halves.requests.sent) has.agent_is in
    omega (arith, sent, length-append old.halves.requests.sent (requests_from old.halves.requests.agent (length old.halves.requests.sent) bodies), numbered-length (numbered_request old.halves.requests.agent) (length old.halves.requests.sent) bodies)

module _ (old mid new : Agent) (bodies more : List Body) (answers said : List Spoken) (lost : Bool) (first : HasAsked old mid bodies answers false) (then : HasAsked mid new more said lost) where
  agent-then : new ≡ after_requests old (bodies ++ more) (flat_map reply_of (answers ++ said)) lost
  agent-then =
      let count = sent-count old mid bodies answers false first in
      let replies = flat_map-append reply_of answers said in
      let same : length old.halves.requests.sent + length bodies ≡ length old.halves.requests.sent + length (flat_map reply_of answers) = omega (arith, first.replied) in
      let sent = numbered-then (numbered_request old.halves.requests.agent) old.halves.requests.sent (length old.halves.requests.sent) (length mid.halves.requests.sent) bodies more count in
      let taken = numbered-then (numbered_answer old.halves.requests.agent) old.halves.answers.taken (length old.halves.requests.sent) (length mid.halves.requests.sent) (flat_map reply_of answers) (flat_map reply_of said) (count ∙ same) in
      let mid_sent = ap (λ (a : Agent). a.halves.requests.sent) first.agent_is in
      let mid_taken = ap (λ (a : Agent). a.halves.answers.taken) first.agent_is in
      let mid_lost = ap (λ (a : Agent). a.lost) first.agent_is ∙ or-false old.lost in
      let mid_agent = ap (λ (a : Agent). a.halves.requests.agent) first.agent_is in
      then.agent_is
      ∙ ap (λ (a : Agent). with_lists a (mid.halves.requests.sent ++ requests_from mid.halves.requests.agent (length mid.halves.requests.sent) more) (mid.halves.answers.taken ++ answers_from mid.halves.requests.agent (length mid.halves.requests.sent) (flat_map reply_of said)) (mid.lost || lost)) first.agent_is
      ∙ (λ i. with_lists old (mid_sent i ++ requests_from (mid_agent i) (length mid.halves.requests.sent) more) (mid_taken i ++ answers_from (mid_agent i) (length mid.halves.requests.sent) (flat_map reply_of said)) (mid_lost i || lost))
      ∙ (λ i. with_lists old (sent i) ((taken ∙ ap (λ rs. old.halves.answers.taken ++ answers_from old.halves.requests.agent (length old.halves.requests.sent) rs) (sym replies)) i) (old.lost || lost))

  -- more was asked
  pub asked-then : HasAsked old new (bodies ++ more) (answers ++ said) lost
  asked-then = record {
    agent_is = agent-then;
    idle = λ was.
        let mid_lost = ap (λ (a : Agent). a.lost) first.agent_is ∙ (or-false old.lost ∙ was) in
        ((λ i. (first.idle was).0 i ++ (then.idle mid_lost).0 i), All-append (λ (answer : Spoken). answer ≢ spoken.Refused 44) answers said (first.idle was).1 (then.idle mid_lost).1);
    replied = rw (length-append bodies more, flat_map-append reply_of answers said, length-append (flat_map reply_of answers) (flat_map reply_of said)) (replied-then lost (length bodies) (length more) (length (flat_map reply_of answers)) (length (flat_map reply_of said)) first.replied then.replied);
  }

-- ---- one frame

module _ (old new : Agent) (body : Body) (place : ℕ) (bytes : List ℕ) (encoded : Encodes bytes place body) where
  -- a body that was asked
  pub turn-asked : (result : Result Answer AskFault) → IsAsk old body new result → IsTurn old new place bytes (asked_turn result)
  turn-asked (Ok answer) ask = record {
    bodies = body ∷ [];
    takes = asked body (replied_in answer) encoded ask.0.1;
    asked = record {
      agent_is = ask.2 ∙ (λ i. with_lists old (sym (numbered-one (numbered_request old.halves.requests.agent) old.halves.requests.sent (length old.halves.requests.sent) body) i) (sym (numbered-one (numbered_answer old.halves.requests.agent) old.halves.answers.taken (length old.halves.requests.sent) (replied_in answer)) i) (sym (or-false old.lost) i));
      idle = λ was. never old.lost ask.0.0 was;
      replied = refl;
    };
  }
  turn-asked (Err (Lost (Some back))) ask = record {
    bodies = [];
    takes = given_up body encoded refl;
    asked = record {
      agent_is = ask.2 ∙ (λ i. with_lists old (sym (numbered-none (numbered_request old.halves.requests.agent) old.halves.requests.sent (length old.halves.requests.sent)) i) (sym (numbered-none (numbered_answer old.halves.requests.agent) old.halves.answers.taken (length old.halves.requests.sent)) i) (sym (or-true old.lost) i));
      idle = λ was. (refl, All-nil (λ (answer : Spoken). answer ≢ spoken.Refused 44));
      replied = inl refl;
    };
  }
  turn-asked (Err (Lost None)) ask = record {
    bodies = body ∷ [];
    takes = given_up_after body encoded ask.0.1 refl;
    asked = record {
      agent_is = ask.1 ∙ (λ i. with_lists old (sym (numbered-one (numbered_request old.halves.requests.agent) old.halves.requests.sent (length old.halves.requests.sent) body) i) (sym (numbered-none (numbered_answer old.halves.requests.agent) old.halves.answers.taken (length old.halves.requests.sent)) i) (sym (or-true old.lost) i));
      idle = λ was. never old.lost ask.0.0 was;
      replied = inr refl;
    };
  }
  turn-asked (Err (Limit back)) ask = record {
    bodies = [];
    takes = used_up body encoded ask.1;
    asked = subst (λ (a : Agent). HasAsked old a [] (spoken.Refused 44 ∷ []) false) (sym ask.3) (asked-refused old 44 (λ was. never old.lost ask.0 was));
  }

one-refused : (agent : Agent) (refusal : Refusal) → HasAsked agent agent [] (spoken.Refused (refusal_code refusal) ∷ []) false
one-refused agent refusal = asked-refused agent (refusal_code refusal) (λ _. refusal_apart refusal)

-- a frame that was refused, and ended the session or not
pub turn-refused : (agent : Agent) (place : ℕ) (bytes : List ℕ) (refusal : Refusal) → Takes Connection agent.limit (length agent.halves.requests.sent) place bytes [] (spoken.Refused (refusal_code refusal) ∷ []) (refusal_end refusal)
    → IsTurn agent agent place bytes (Some (record { answer = spoken.Refused (refusal_code refusal); over = is_some (refusal_end refusal) }))
turn-refused agent place bytes (refusals.Body fault) takes = record { bodies = []; takes = takes; asked = one-refused agent (refusals.Body fault) }
turn-refused agent place bytes refusals.OutOfTurn takes = record { bodies = []; takes = takes; asked = one-refused agent refusals.OutOfTurn }
