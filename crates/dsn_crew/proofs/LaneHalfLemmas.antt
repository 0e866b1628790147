-- Halves: what each half keeps through its steps.
use Rattle.std.proofs.Common.{◌≡◌, ℕ, zero, suc, ◌+◌, ◌<◌, ◌≤◌, ◌%◌, ◌^◌, List, [], ◌∷◌, ◌++◌, length, refl, ap, sym, ◌∙◌, subst, length-append, eq-eqb, ne_eqb, lt_of_not-le, arith}
use Rattle.std.proofs.Math.Nat.{mod-add-mod}
use native.Mathlib.Decide.{ℕ_discrete, dec_le}
use Rattle.dsn_outcome.specs.Agents.{from_agent}
use Rattle.dsn_crew.proofs.lane.AgentLemmas.{more_mine, more_not_mine, numbered_more, numbered_none}
use Rattle.dsn_crew.specs.lane.Halves.{Identity, Half, Out, fresh_halves}
use Rattle.dsn_crew.specs.inner.Halves.{IsSending, IsReceiving, sending, taking, fresh, passed_over}
use Rattle.dsn_crew.specs.lane.Lane.{IsNumbered}
use Rattle.dsn_crew.specs.inner.Step.{after_room, after_take, after_join, after_split, split_off, IsNext}
use Rattle.dsn_crew.specs.inner.Step.{after_send}
use Rattle.dsn_crew.specs.declared.lane.lane_knowledge.Sending.{Sending}
use Rattle.dsn_crew.specs.declared.lane.lane_knowledge.Taking.{Taking}
use Rattle.dsn_crew.specs.declared.lane.lane_knowledge.LaneKnowledge.{LaneKnowledge}
use Rattle.dsn_crew.specs.declared.lane.lane_knowledge.LaneKnowledge.TheVariants.{Sends, Takes}

-- ---- agents that have sent nothing

fresh_suc : {T : Type 0} (first more : ℕ) → fresh {T = T} first (suc more) ≡ fresh first more ++ record { agent = first + more; sent = [] } ∷ []
fresh_suc {T} first zero = ap (λ (n : ℕ). record { agent = n; sent = let none : List T = [] in none } ∷ []) (omega arith)
fresh_suc {T} first (suc more) =
    ap (λ (rest : List (Sending T)). record { agent = first; sent = [] } ∷ rest) (fresh_suc {T = T} (suc first) more ∙ ap (λ (n : ℕ). fresh {T = T} (suc first) more ++ record { agent = n; sent = [] } ∷ []) (omega arith))

-- one more agent comes after the others
pub fresh_more : {T : Type 0} (first more : ℕ) → fresh {T = T} first (more + 1) ≡ fresh first more ++ record { agent = first + more; sent = [] } ∷ []
fresh_more {T} first more = let one : more + 1 ≡ suc more = omega arith in ap (fresh {T = T} first) one ∙ fresh_suc {T = T} first more

pub length-fresh : (T : Type 0) (first more : ℕ) → length (fresh {T = T} first more) ≡ more
length-fresh T first zero = refl
length-fresh T first (suc more) = let rest = length-fresh T (suc first) more in omega arith

-- none of them is below the first
fresh_none : {T : Type 0} (a first more : ℕ) → a < first → from_agent (λ (half : Sending T). half.agent) a (fresh first more) ≡ []
fresh_none a first zero below = refl
fresh_none {T} a first (suc more) below = rw (ne_eqb first a (λ same. absurd (omega arith))) (fresh_none {T = T} a (suc first) more (omega arith))

-- none of them is past the last
pub fresh_past : {T : Type 0} (a first more : ℕ) → first + more ≤ a → from_agent (λ (half : Sending T). half.agent) a (fresh first more) ≡ []
fresh_past a first zero past = refl
fresh_past {T} a first (suc more) past = rw (ne_eqb first a (λ same. absurd (omega arith))) (fresh_past {T = T} a (suc first) more (omega arith))

-- each of them is one
pub fresh_one : {T : Type 0} (a first more : ℕ) → first ≤ a → a < first + more → from_agent (λ (half : Sending T). half.agent) a (fresh first more) ≡ record { agent = a; sent = [] } ∷ []
fresh_one a first zero from below = absurd (omega arith)
fresh_one {T} a first (suc more) from below =
    elim (ℕ_discrete first a) [
      | yes same ↦ rw (eq-eqb first a same) (λ i. record { agent = same i; sent = [] } ∷ fresh_none {T = T} a (suc first) more (omega arith) i)
      | no other ↦ rw (ne_eqb first a other) (fresh_one {T = T} a (suc first) more (omega (arith, other)) (omega arith))
    ]

-- ---- a send

keeps_sending_at : {T : Type 0} (agent number : T → ℕ) (half : Sending T) (count : ℕ) (item : T) → agent item ≡ half.agent → number item ≡ length half.sent → IsSending agent number half count → IsSending agent number (record { agent = half.agent; sent = half.sent ++ item ∷ [] }) (count + 1)
keeps_sending_at {T} agent number half count item is next before = record {
  counted = let was = before.counted in omega (arith, length-append half.sent (item ∷ []));
  mine = more_mine agent half.agent half.sent item is ∙ ap (λ (front : List T). front ++ item ∷ []) before.mine;
  numbered = numbered_more number half.sent item before.numbered next;
}

-- the knowledge of a sending half, after a send
pub keeps_sending : {T : Type 0} (agent number : T → ℕ) (capacity : ℕ) (old new : LaneKnowledge T) (count : ℕ) (item : T) → old ≡ Sends capacity (sending old) → new ≡ after_send old item → agent item ≡ (sending old).agent → number item ≡ length (sending old).sent → IsSending agent number (sending old) count → (new ≡ Sends capacity (sending new)) × IsSending agent number (sending new) (count + 1)
keeps_sending {T} agent number capacity old new count item is step own next before =
    let half : Sending T = sending old in
    let now : new ≡ after_send (Sends capacity half) item = step ∙ ap (λ (it : LaneKnowledge T). after_send it item) is in
    subst (λ (it : LaneKnowledge T). (it ≡ Sends capacity (sending it)) × IsSending agent number (sending it) (count + 1)) (sym now) (refl, keeps_sending_at agent number half count item own next before)

-- ---- a take

numbered_taken : {T : Type 0} (agent number : T → ℕ) (taken : List T) (item : T) → ((a : ℕ) → IsNumbered number (from_agent agent a taken)) → number item ≡ length (from_agent agent (agent item) taken) → (a : ℕ) → IsNumbered number (from_agent agent a (taken ++ item ∷ []))
numbered_taken agent number taken item before next a =
    elim (ℕ_discrete (agent item) a) [
      | yes same ↦ subst (IsNumbered number) (sym (more_mine agent a taken item same)) (numbered_more number (from_agent agent a taken) item (before a) (next ∙ ap (λ (b : ℕ). length (from_agent agent b taken)) same))
      | no other ↦ subst (IsNumbered number) (sym (more_not_mine agent a taken item other)) (before a)
    ]

keeps_receiving_at : {T : Type 0} (agent number : T → ℕ) (capacity : ℕ) (known : Taking T) (count : ℕ) (item : T) → IsReceiving agent number known count → IsNext agent number (Takes capacity known) item → IsReceiving agent number (taking (after_take (Takes capacity known) item)) ((count + 1) % 2 ^ 64)
keeps_receiving_at agent number capacity known count item before next = record {
  agents = before.agents;
  passed = before.passed;
  counted =
      ap (λ (n : ℕ). (n + 1) % 2 ^ 64) before.counted
      ∙ (mod-add-mod (length known.taken) (2 ^ 64) 1 ∙ ap (λ (n : ℕ). n % 2 ^ 64) (sym (length-append known.taken (item ∷ []))));
  numbered = numbered_taken agent number known.taken item before.numbered next.1;
}

-- the knowledge of the receiving half, after a take
pub keeps_receiving : {T : Type 0} (agent number : T → ℕ) (capacity : ℕ) (old new : LaneKnowledge T) (count : ℕ) (item : T) → old ≡ Takes capacity (taking old) → new ≡ after_take old item → IsNext agent number old item → IsReceiving agent number (taking old) count → (new ≡ Takes capacity (taking new)) × IsReceiving agent number (taking new) ((count + 1) % 2 ^ 64)
keeps_receiving {T} agent number capacity old new count item is step next before =
    let known : Taking T = taking old in
    let learnt : IsNext agent number (Takes capacity known) item = subst (λ (it : LaneKnowledge T). IsNext agent number it item) is next in
    let now : new ≡ after_take (Takes capacity known) item = step ∙ ap (λ (it : LaneKnowledge T). after_take it item) is in
    subst (λ (it : LaneKnowledge T). (it ≡ Takes capacity (taking it)) × IsReceiving agent number (taking it) ((count + 1) % 2 ^ 64)) (sym now) (refl, keeps_receiving_at agent number capacity known count item before learnt)

-- an item that is taken is of an agent with a half
pub agent_within : {T : Type 0} (agent number : T → ℕ) (capacity : ℕ) (token : LaneKnowledge T) (count : ℕ) (item : T) → token ≡ Takes capacity (taking token) → IsNext agent number token item → IsReceiving agent number (taking token) count → (length (taking token).back ≤ agent item) × (agent item < (taking token).made)
agent_within {T} agent number capacity token count item is next before =
    let known : Taking T = taking token in
    let learnt : IsNext agent number (Takes capacity known) item = subst (λ (it : LaneKnowledge T). IsNext agent number it item) is next in
    let a : ℕ = agent item in
    let first : ℕ = length known.back in (
      elim (dec_le first a) [
        | yes from ↦ from
        | no below ↦ let less = lt_of_not-le below in
            absurd (learnt.2 (ap (from_agent (λ (half : Sending T). half.agent) a) before.passed ∙ fresh_one {T = T} a 0 first (omega arith) (omega arith)))
      ],
      learnt.0,
    )

-- ---- the halves of a lane that is new

halves_suc : {T : Type 0} (lane : Identity T) (first more : ℕ) → fresh_halves lane first (suc more) ≡ fresh_halves lane first more ++ record { lane = lane; agent = first + more; sent = [] } ∷ []
halves_suc {T} lane first zero = ap (λ (n : ℕ). record { lane = lane; agent = n; sent = let none : List T = [] in none } ∷ []) (omega arith)
halves_suc {T} lane first (suc more) =
    ap (λ (rest : List (Half T)). record { lane = lane; agent = first; sent = [] } ∷ rest) (halves_suc lane (suc first) more ∙ ap (λ (n : ℕ). fresh_halves lane (suc first) more ++ record { lane = lane; agent = n; sent = [] } ∷ []) (omega arith))

-- one more half comes after the others
pub halves_more : {T : Type 0} (lane : Identity T) (first more : ℕ) → fresh_halves lane first (more + 1) ≡ fresh_halves lane first more ++ record { lane = lane; agent = first + more; sent = [] } ∷ []
halves_more lane first more = let one : more + 1 ≡ suc more = omega arith in ap (fresh_halves lane first) one ∙ halves_suc lane first more

-- ---- room that is counted

-- there is room for one item more
pub room_more : {T : Type 0} (n : ℕ) (old new : LaneKnowledge T) → old ≡ passed_over n 0 → new ≡ after_room old → new ≡ passed_over (n + 1) 0
room_more {T} n old new is step =
    let one : suc n ≡ n + 1 = omega arith in step ∙ (ap after_room is ∙ ap (λ (capacity : ℕ). passed_over {T = T} capacity 0) one)

-- ---- agents that are passed over

passed_suc : {T : Type 0} (capacity n : ℕ) → after_join (after_split (passed_over {T = T} capacity n)) (split_off (passed_over {T = T} capacity n)) ≡ passed_over {T = T} capacity (n + 1)
passed_suc {T} capacity n =
    let made : suc n ≡ n + 1 = omega arith in
    let zeroth : n ≡ 0 + n = omega arith in
    let none : List T = [] in
    let back : fresh {T = T} 0 n ++ record { agent = n; sent = none } ∷ [] ≡ fresh {T = T} 0 (n + 1) =
    ap (λ (m : ℕ). fresh {T = T} 0 n ++ record { agent = m; sent = none } ∷ []) zeroth ∙ sym (fresh_more {T = T} 0 n)
    in
    λ i. Takes capacity (record { made = made i; taken = none; back = back i })

-- one more agent is passed over: its pass is split off and joined
pub passed_more : {T : Type 0} (capacity n : ℕ) (old left right : LaneKnowledge T) → old ≡ passed_over capacity n → left ≡ after_split old → right ≡ split_off old → after_join left right ≡ passed_over capacity (n + 1)
passed_more {T} capacity n old left right is split off =
    let splits : left ≡ after_split (passed_over {T = T} capacity n) = split ∙ ap after_split is in
    let offs : right ≡ split_off (passed_over {T = T} capacity n) = off ∙ ap split_off is in
    (λ i. after_join (splits i) (offs i)) ∙ passed_suc {T = T} capacity n

-- ---- opening a lane

-- the receiving half of a lane with nothing in it, whose agents go from `first` on and are below `past`
abbrev new_token : {T : Type 0} → ℕ → ℕ → ℕ → LaneKnowledge T
new_token capacity first past = Takes capacity (record { made = past; taken = []; back = fresh 0 first })

-- the next agent's half comes after the others
pub halves_pushed : {T : Type 0} (lane : Identity T) (capacity first more : ℕ) (token : LaneKnowledge T) (half : Half T) (old new : List (Half T)) → token ≡ Takes capacity (record { made = first + more; taken = []; back = fresh 0 first }) → half ≡ record { lane = lane; agent = (taking token).made; sent = [] } → old ≡ fresh_halves lane first more → new ≡ old ++ half ∷ [] → new ≡ fresh_halves lane first (more + 1)
halves_pushed {T} lane capacity first more token half old new is half_is before pushed =
    let made : (taking token).made ≡ first + more = ap (λ (it : LaneKnowledge T). (taking it).made) is in
    let none : List T = [] in
    let last : half ≡ record { lane = lane; agent = first + more; sent = none } = half_is ∙ ap (λ (n : ℕ). record { lane = lane; agent = n; sent = none }) made in
    pushed ∙ ((λ i. before i ++ last i ∷ []) ∙ sym (halves_more lane first more))

receiving_at : {T : Type 0} (agent number : T → ℕ) (capacity first past : ℕ) → first < past → past ≤ 16 → IsReceiving agent number (taking (new_token {T = T} capacity first past)) 0
receiving_at {T} agent number capacity first past some few = record {
  agents = let back = length-fresh T 0 first in (omega arith, few);
  passed = ap (fresh {T = T} 0) (sym (length-fresh T 0 first));
  counted = refl;
  numbered = λ a. numbered_none number;
}

-- a receiving half that has taken nothing
pub new_receiving : {T : Type 0} (agent number : T → ℕ) (capacity first past : ℕ) (token : LaneKnowledge T) → first < past → past ≤ 16 → token ≡ Takes capacity (record { made = past; taken = []; back = fresh 0 first }) → (token ≡ Takes capacity (taking token)) × IsReceiving agent number (taking token) 0
new_receiving {T} agent number capacity first past token some few is =
    subst (λ (it : LaneKnowledge T). (it ≡ Takes capacity (taking it)) × IsReceiving agent number (taking it) 0) (sym is) (refl, receiving_at agent number capacity first past some few)

abbrev out : {T : Type 0} → Identity T → ℕ → ℕ → List T → Out T
out lane first past taken = record { lane = lane; first = first; past = past; taken = taken }

-- what contracts see of it
pub new_out : {T : Type 0} (lane : Identity T) (capacity first past : ℕ) (token : LaneKnowledge T) → token ≡ Takes capacity (record { made = past; taken = []; back = fresh 0 first }) → out lane (length (taking token).back) (taking token).made (taking token).taken ≡ out lane first past []
new_out {T} lane capacity first past token is =
    let none : List T = [] in
    ap (λ (it : LaneKnowledge T). out lane (length (taking it).back) (taking it).made (taking it).taken) is ∙ ap (λ (n : ℕ). out lane n past none) (length-fresh T 0 first)

-- ---- the last of some halves

pub snoc_injective : {A : Type 0} (xs ys : List A) (x y : A) → xs ++ x ∷ [] ≡ ys ++ y ∷ [] → (xs ≡ ys) × (x ≡ y)
snoc_injective [] [] x y e = (refl, cc)
snoc_injective [] (b ∷ []) x y e = absurd cc
snoc_injective [] (b ∷ c ∷ ys) x y e = absurd cc
snoc_injective (a ∷ []) [] x y e = absurd cc
snoc_injective (a ∷ b ∷ xs) [] x y e = absurd cc
snoc_injective (a ∷ xs) (b ∷ ys) x y e =
    let rest : xs ++ x ∷ [] ≡ ys ++ y ∷ [] = cc in
    let head : a ≡ b = cc in
    let both = snoc_injective xs ys x y rest in ((λ i. head i ∷ both.0 i), both.1)

-- without the last of the halves of a new lane, those of one agent less are left
pub last_half : {T : Type 0} (lane : Identity T) (first more : ℕ) (all rest : List (Half T)) (last : Half T) → all ≡ fresh_halves lane first (more + 1) → all ≡ rest ++ last ∷ [] → (rest ≡ fresh_halves lane first more) × (last ≡ record { lane = lane; agent = first + more; sent = [] })
last_half {T} lane first more all rest last fresh split =
    snoc_injective rest (fresh_halves lane first more) last (record { lane = lane; agent = first + more; sent = let none : List T = [] in none }) (sym split ∙ (fresh ∙ halves_more lane first more))
