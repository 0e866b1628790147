-- Agents: what an ask leaves, and a goodbye that was heard, and the fault of one that was not.
use Rattle.std.proofs.Common.{◌≡◌, ◌<◌, ◌≤◌, ◌+◌, ◌++◌, ℕ, Bool, true, false, List, [], ◌∷◌, length, refl, ap, sym, ◌∙◌, subst, true≢false, length-append, arith}
use Rattle.std.proofs.lemmas.Grind.{elements}
use Rattle.std.proofs.lemmas.List.Elements.{All-append, All-cons, All-nil, filter-append}
use Rattle.std.specs.Prelude.{◌≢◌, Option, Some, None, Err}
use Rattle.dsn_crew.specs.lane.Halves.{Half, Out}
use Rattle.dsn_outcome.specs.Agents.{from_agent}
use Rattle.dsn_outcome.specs.History.{plain}
use Rattle.dsn_outcome.specs.Request.{Request, Body, Bye}
use Rattle.dsn_outcome.specs.declared.answer.Answer.{Answer}
use Rattle.dsn_outcome.specs.declared.answer.Replied.{Replied}
use Rattle.dsn_outcome.specs.declared.answer.Reply.TheVariants.{Gone}
use Rattle.dsn_outcome.specs.declared.body.Body as Sent
use Rattle.dsn_crew.specs.agents.Agent.{Agent, AreHalves, LaneHalves, IsAgent, IsFinished, IsGoodbye, Stays, after_reply, answer_with, losing, request_with, with_halves}
use Rattle.dsn_crew.specs.inner.Agent.{IsFaultOf, IsLeave, IsUnanswered}
use Rattle.dsn_crew.specs.declared.agents.ask_fault.AskFault.{AskFault}
use Rattle.dsn_crew.specs.declared.agents.ask_fault.AskFault.TheVariants.{Limit, Lost}
use Rattle.dsn_crew.specs.declared.agents.unheard.Unheard.{Unheard}

-- after a goodbye that was answered Gone
pub finishes : (old new : LaneHalves) (replied : Replied) → Stays old.requests.sent → length old.answers.taken ≡ length old.requests.sent → new ≡ after_reply old Bye replied → replied ≡ plain Gone → IsFinished new
finishes old new replied stays answered is gone =
    let here : IsFinished (after_reply old Bye (plain Gone)) = record {
      answered = omega (arith, length-append old.answers.taken (record { agent = old.requests.agent; number = length old.requests.sent; reply = Gone; serial = None } ∷ []), length-append old.requests.sent (record { agent = old.requests.agent; number = length old.requests.sent; body = Bye } ∷ []));
      before = old.requests.sent;
      stays = stays;
      bye = refl;
      got = old.answers.taken;
      gone = refl;
    } in
    subst IsFinished (sym (is ∙ ap (after_reply old Bye) gone)) here

not_true : (flag : Bool) → (flag ≡ true → ⊥) → flag ≡ false
not_true true never = absurd (never refl)
not_true false never = refl

-- the fault of a goodbye that was not heard
pub goodbye_fault : (old : Agent) (unheard : Unheard) (fault : AskFault) → IsLeave old (Err unheard) → IsFaultOf unheard fault → IsGoodbye old (Err fault)
goodbye_fault old unheard (Limit back) leave is = is
goodbye_fault old unheard (Lost (Some back)) leave is = is
goodbye_fault old unheard (Lost None) leave is = not_true old.lost (λ lost. true≢false (sym (leave lost) ∙ is))

-- ---- what an agent keeps when it asks

stays_more : (old : LaneHalves) (body : Body) → Stays old.requests.sent → body ≢ Bye → Stays (old.requests.sent ++ request_with old body ∷ [])
stays_more old body before stays =
    let P = λ (request : Request). request.body ≢ Bye in
    All-append P old.requests.sent (request_with old body ∷ []) before (All-cons P (request_with old body) [] stays (All-nil P))

-- an agent that was answered
pub asked_more : (old : Agent) (body : Body) (new : LaneHalves) (replied : Replied) → IsAgent old → body ≢ Bye → length old.halves.requests.sent < old.limit → new ≡ after_reply old.halves body replied → IsAgent (with_halves old new)
asked_more old body new replied kept stays below is =
    let asked = length-append old.halves.requests.sent (request_with old.halves body ∷ []) in
    let longer = length-append old.halves.answers.taken (answer_with old.halves replied ∷ []) in
    subst (λ (halves : LaneHalves). IsAgent (with_halves old halves)) (sym is) (record {
      limited = omega (arith, asked, below);
      few = kept.few;
      stays = stays_more old.halves body kept.stays stays;
      answered = λ here. omega (arith, asked, longer, kept.answered here);
    })

-- an agent that has lost a lane
pub lost_more : (old : Agent) (body : Body) (new : LaneHalves) (back : Option Sent.Body) → IsAgent old → body ≢ Bye → length old.halves.requests.sent < old.limit → IsUnanswered old.halves body new back → IsAgent (losing old new)
lost_more old body new (Some it) kept stays below is =
    subst (λ (halves : LaneHalves). IsAgent (losing old halves)) (sym is.1) (record {
      limited = kept.limited;
      few = kept.few;
      stays = kept.stays;
      answered = λ never. absurd (true≢false never);
    })
lost_more old body new None kept stays below is =
    let asked = length-append old.halves.requests.sent (request_with old.halves body ∷ []) in
    subst (λ (halves : LaneHalves). IsAgent (losing old halves)) (sym is) (record {
      limited = omega (arith, asked, below);
      few = kept.few;
      stays = stays_more old.halves body kept.stays stays;
      answered = λ never. absurd (true≢false never);
    })

-- ---- what an agent's halves keep when it asks

one_mine : (agent : ℕ) (answer : Answer) → answer.agent ≡ agent → from_agent (λ (it : Answer). it.agent) agent (answer ∷ []) ≡ answer ∷ []
one_mine agent answer is = grind (arith, elements)

mine_more : (agent : ℕ) (taken : List Answer) (answer : Answer) → from_agent (λ (it : Answer). it.agent) agent taken ≡ taken → answer.agent ≡ agent → from_agent (λ (it : Answer). it.agent) agent (taken ++ answer ∷ []) ≡ taken ++ answer ∷ []
mine_more agent taken answer mine is =
    let of_agent = from_agent (λ (it : Answer). it.agent) agent in
    filter-append _ taken (answer ∷ []) ∙ (ap (λ (it : List Answer). it ++ of_agent (answer ∷ [])) mine ∙ ap (λ (it : List Answer). taken ++ it) (one_mine agent answer is))

-- the halves once the answer lane has these items
ends_with : (old : LaneHalves) (half : Half Request) (out : Out Answer) (taken : List Answer) → AreHalves old → half.agent ≡ old.requests.agent → out.first ≡ old.answers.first → out.past ≡ old.answers.past → out.taken ≡ taken → from_agent (λ (it : Answer). it.agent) old.requests.agent taken ≡ taken → AreHalves (record { requests = half; answers = out })
ends_with old half out taken kept agent first past taken_is mine = record {
  first = first ∙ (kept.first ∙ sym agent);
  past = past ∙ (kept.past ∙ ap (λ (n : ℕ). n + 1) (sym agent));
  mine = subst (λ (n : ℕ). from_agent (λ (it : Answer). it.agent) n out.taken ≡ out.taken) (sym agent) (subst (λ (items : List Answer). from_agent (λ (it : Answer). it.agent) old.requests.agent items ≡ items) (sym taken_is) mine);
}

-- an answer came
pub ends_more : (old : LaneHalves) (half : Half Request) (out : Out Answer) (answer : Answer) → AreHalves old → half.agent ≡ old.requests.agent → out.first ≡ old.answers.first → out.past ≡ old.answers.past → (old.answers.first ≤ answer.agent) × (answer.agent < old.answers.past) → out.taken ≡ old.answers.taken ++ answer ∷ [] → AreHalves (record { requests = half; answers = out })
ends_more old half out answer kept agent first past within taken =
    ends_with old half out (old.answers.taken ++ answer ∷ []) kept agent first past taken (mine_more old.requests.agent old.answers.taken answer kept.mine (omega (arith, within.0, within.1, kept.first, kept.past)))

-- none came
pub ends_same : (old : LaneHalves) (half : Half Request) (out : Out Answer) → AreHalves old → half.agent ≡ old.requests.agent → out.first ≡ old.answers.first → out.past ≡ old.answers.past → out.taken ≡ old.answers.taken → AreHalves (record { requests = half; answers = out })
ends_same old half out kept agent first past taken = ends_with old half out old.answers.taken kept agent first past taken kept.mine
