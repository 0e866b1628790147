-- Openings: a collector that has taken nothing, and the agents one after another.
use Rattle.std.proofs.Common.{None, ◌≡◌, ℕ, zero, suc, ◌+◌, ◌-◌, ◌^◌, ◌<◌, ◌≤◌, All, List, [], ◌∷◌, ◌++◌, length, map, refl, ap, sym, ◌∙◌, subst, length-append, arith}
use Rattle.std.specs.List.{slice_index_or}
use Rattle.std.proofs.lemmas.List.{append-nil, map-append}
use Rattle.std.proofs.lemmas.List.Elements.{All-nil}
use native.Mathlib.Decide.{ℕ_discrete}
use Rattle.dsn_book.specs.Keeper.{MayCrash}
use Rattle.dsn_book.specs.declared.keeper.Keeper.{Ghosts as Keeper}
use Rattle.dsn_book.specs.Release.{history_under}
use Rattle.dsn_book.proofs.ReleaseLemmas.{under-none}
use Rattle.dsn_crew.specs.lane.Halves.{Half, Identity, fresh_halves}
use Rattle.dsn_crew.specs.lane.Lane.{IsNumbered}
use Rattle.dsn_crew.proofs.lane.AgentLemmas.{numbered_none}
use Rattle.dsn_outcome.specs.Agents.{from_agent}
use Rattle.dsn_outcome.specs.History.{Exchange, answers_to}
use Rattle.dsn_outcome.specs.Request.{Request}
use Rattle.dsn_outcome.specs.declared.answer.Answer.{Answer}
use Rattle.dsn_crew.specs.agents.Agent.{Agent}
use Rattle.dsn_crew.specs.KeeperHistory.{BeginsWith}
use Rattle.dsn_crew.specs.desk.Desk.{Desk, IsDesk}
use Rattle.dsn_crew.specs.inner.Desk.{desk_seen}
use Rattle.dsn_crew.specs.inner.Desk.{Intake}
use Rattle.dsn_crew.specs.desk.Close.{AreCrew}
use Rattle.dsn_crew.specs.desk.Open.{AreLines, IsLine, IsOpened, opened_agent}
use Rattle.dsn_crew.specs.agents.AgentLanes.{lanes_at, lanes_of}
use Rattle.dsn_crew.proofs.desk.CrashLemmas.{LeavesKept, none_done}

-- a collector that has taken nothing
pub new_desk : {B : Type 0} (keeper : Keeper B) (book : B) (intake : Intake) (halves : List (Half Answer)) → LeavesKept keeper → (before : List Exchange) × BeginsWith keeper book before → keeper.sealed book < 2 ^ 63 → intake.requests.first ≡ 0 → intake.requests.past ≡ length halves → intake.requests.taken ≡ [] → intake.behind ≡ [] → AreLines halves → length halves ≤ 16 → IsDesk keeper (desk_seen book book None intake halves 0)
new_desk keeper book intake halves law began small first past taken none lines few = subst (λ (q : List Request). IsDesk keeper (desk_seen book book None (record { requests = intake.requests; behind = q }) halves 0)) (sym none) (record {
  first = first;
  past = past;
  few = few;
  mine = subst (All (λ (request : Request). request.agent < length halves)) (sym taken) (All-nil (λ (request : Request). request.agent < length halves));
  numbered = λ agent. subst (λ (q : List Request). IsNumbered (λ (request : Request). request.number) (from_agent (λ (request : Request). request.agent) agent q)) (sym taken) (numbered_none (λ (request : Request). request.number));
  lines = λ a d inside. (lines a d inside).agent_is;
  rules = refl;
  began = began;
  room = small;
  sealed = omega arith;
  kept = λ _. refl;
  next = record {
    from = All-nil (λ (request : Request). request.agent < length halves);
    numbered = λ agent. subst (λ (q : List Request). IsNumbered (λ (request : Request). request.number) (from_agent (λ (request : Request). request.agent) agent (q ++ []))) (sym taken) (numbered_none (λ (request : Request). request.number));
  };
  together = omega arith;
  in_time = λ n few. absurd (omega arith);
  counted = λ _ a d inside. ap length (lines a d inside).unused ∙ ap (λ (q : List Request). length (from_agent (λ (request : Request). request.agent) a q)) (sym taken);
  stands = λ before begins.
      let no_more : (t : List Exchange) → history_under (keeper.rules book) t intake.requests.taken ≡ t =
      λ t. ap (history_under (keeper.rules book) t) taken ∙ under-none (keeper.rules book) t in
      let none : (a : ℕ) (d : Half Answer) → a < length halves → (slice_index_or halves a d).sent ≡ answers_to a (history_under (keeper.rules book) before intake.requests.taken) =
      λ a d inside.
      (lines a d inside).unused
      ∙ (sym (begins.1 a (omega (arith, inside))) ∙ ap (answers_to a) (sym (no_more before))) in record {
        has = subst (λ (t : List Exchange). keeper.has book t []) (sym (no_more before)) begins.0;
        sent = λ a d inside. ([], append-nil (slice_index_or halves a d).sent ∙ none a d inside);
        answered = λ _. none;
        crash = subst (λ (q : List Request). MayCrash keeper book book (keeper.rules book) before (q ++ [])) (sym taken) (none_done keeper book book book (keeper.rules book) before [] law refl begins.0);
      };
})

-- the first of the halves that are left
pub next_half : (lane : Identity Request) (first agents : ℕ) (left rest : List (Half Request)) (half : Half Request) → first < agents → left ≡ fresh_halves lane first (agents - first) → left ≡ half ∷ rest → (half ≡ record { lane = lane; agent = first; sent = [] }) × (rest ≡ fresh_halves lane (first + 1) (agents - (first + 1)))
next_half lane first agents left rest half below is split =
    let more : ℕ = agents - (first + 1) in
    let count : agents - first ≡ suc more = omega arith in
    let one : suc first ≡ first + 1 = omega arith in
    let both : half ∷ rest ≡ fresh_halves lane first (suc more) = sym split ∙ (is ∙ ap (fresh_halves lane first) count) in
    (cc, (let tail : rest ≡ fresh_halves lane (suc first) more = cc in tail) ∙ ap (λ (n : ℕ). fresh_halves lane n more) one)

-- one more line
at_push : (halves : List (Half Answer)) (half d : Half Answer) (a : ℕ) → a < length halves → slice_index_or (halves ++ half ∷ []) a d ≡ slice_index_or halves a d
at_push [] half d a inside = absurd (omega arith)
at_push (first ∷ halves) half d zero inside = refl
at_push (first ∷ halves) half d (suc a) inside = at_push halves half d a (omega arith)

at_end : (halves : List (Half Answer)) (half d : Half Answer) → slice_index_or (halves ++ half ∷ []) (length halves) d ≡ half
at_end [] half d = refl
at_end (first ∷ halves) half d = at_end halves half d

pub lines_push : (old new : List (Half Answer)) (half : Half Answer) → AreLines old → IsLine (length old) half → new ≡ old ++ half ∷ [] → AreLines new
lines_push old new half lines line is a d inside =
    let long : length new ≡ length old + 1 = ap length is ∙ length-append old (half ∷ []) in
    elim (ℕ_discrete a (length old)) [
      | yes same ↦
          let here : slice_index_or new a d ≡ half = ap (λ (es : List (Half Answer)). slice_index_or es a d) is ∙ (ap (λ (k : ℕ). slice_index_or (old ++ half ∷ []) k d) same ∙ at_end old half d) in
          subst (λ (k : ℕ). IsLine k (slice_index_or new a d)) (sym same) (subst (IsLine (length old)) (sym here) line)
      | no other ↦
          let below : a < length old = omega (arith, other) in
          let here : slice_index_or new a d ≡ slice_index_or old a d = ap (λ (es : List (Half Answer)). slice_index_or es a d) is ∙ at_push old half d a below in
          subst (IsLine a) (sym here) (lines a d below)
    ]

-- one more agent
pub crew_push : (limit : ℕ) (lane : Identity Request) (crew crew' : List Agent) (halves halves' : List (Half Answer)) (agent : Agent) (half : Half Answer) → crew ≡ map (opened_agent limit lane) halves → crew' ≡ crew ++ agent ∷ [] → halves' ≡ halves ++ half ∷ [] → agent ≡ opened_agent limit lane half → crew' ≡ map (opened_agent limit lane) halves'
crew_push limit lane crew crew' halves halves' agent half before pushed lines is =
    pushed
    ∙ ((λ i. before i ++ is i ∷ [])
    ∙ (sym (map-append (opened_agent limit lane) halves (half ∷ [])) ∙ ap (map (opened_agent limit lane)) (sym lines)))

pub length_halves : (lane : Identity Request) (first agents : ℕ) → length (fresh_halves lane first agents) ≡ agents
length_halves lane first zero = refl
length_halves lane first (suc more) = let rest = length_halves lane (suc first) more in omega arith

-- ---- an opened crew

two_at : (limit : ℕ) (lane : Identity Request) (halves : List (Half Answer)) → length halves ≡ 2 → (first : Agent) × (second : Agent) × (map (opened_agent limit lane) halves ≡ first ∷ second ∷ []) × (lanes_of first.halves ∷ lanes_of second.halves ∷ [] ≡ map (lanes_at lane) halves)
two_at limit lane [] count = absurd (omega arith)
two_at limit lane (one ∷ []) count = absurd (omega arith)
two_at limit lane (one ∷ other ∷ []) count = (opened_agent limit lane one, opened_agent limit lane other, refl, refl)
two_at limit lane (one ∷ other ∷ third ∷ rest) count = absurd (omega arith)

-- of two agents
pub opened_two : {B : Type 0} (keeper : Keeper B) (start : B) (crew : List Agent) (desk : Desk B) → IsOpened keeper start 2 crew desk → (first : Agent) × (second : Agent) × (crew ≡ first ∷ second ∷ []) × AreCrew (first.halves ∷ second.halves ∷ []) desk
opened_two keeper start crew desk opened =
    let pair = two_at (keeper.rules start).limits.requests desk.requests.lane desk.answers opened.count in
    (pair.0, pair.1, opened.crew_is ∙ pair.2, pair.3)
