-- Lanes: two worked examples of the rule, on items that are pairs of an agent and a number.
use Rattle.std.proofs.Common.{◌≡◌, ℕ, zero, suc, List, [], ◌∷◌, ◌++◌, ◌==◌, false, ◌≤◌, length, refl, sym, ap, ◌∙◌, subst, inl, ne_eqb, arith}
use Rattle.std.specs.List.{slice_get}
use mathlib.Core.Option.{some, some-injective, some-ne-none}
use lib.ListN.{get_elem?}
use Rattle.dsn_outcome.specs.Agents.{from_agent}
use Rattle.dsn_crew.specs.lane.Lane.{IsLane, IsNumbered, Knows, back_from}
use Rattle.dsn_crew.specs.declared.lane.lane_knowledge.Taking.{Taking}
use Rattle.dsn_crew.specs.declared.lane.lane_knowledge.LaneKnowledge.{LaneKnowledge}
use Rattle.dsn_crew.specs.declared.lane.lane_knowledge.LaneKnowledge.TheVariants.{Sends, Takes}

abbrev Item : Type 0
Item = ℕ × ℕ

abbrev agent : Item → ℕ
agent item = item.0

abbrev number : Item → ℕ
number item = item.1

-- the item n of agent a
abbrev item : ℕ → ℕ → Item
item a n = (a, n)

-- over a lane for two items, two agents sent (0, 0), (1, 0), (0, 1) in this order, and the first was taken
abbrev sent : ℕ → List Item
sent zero = item 0 0 ∷ item 0 1 ∷ []
sent (suc zero) = item 1 0 ∷ []
sent (suc (suc a)) = []

abbrev receiver : Taking Item
receiver = record { made = 2; taken = item 0 0 ∷ []; back = [] }

abbrev tokens : List (LaneKnowledge Item)
tokens = Takes 2 receiver ∷ Sends 2 (record { agent = 0; sent = sent 0 }) ∷ Sends 2 (record { agent = 1; sent = sent 1 }) ∷ []

abbrev waiting : List Item
waiting = item 1 0 ∷ item 0 1 ∷ []

-- a third agent has neither the number of the first nor that of the second
third : (a : ℕ) → ((0 == suc (suc a)) ≡ false) × ((1 == suc (suc a)) ≡ false)
third a = (ne_eqb 0 (suc (suc a)) (λ e. absurd (omega arith)), ne_eqb 1 (suc (suc a)) (λ e. absurd (omega arith)))

accepted : (a : ℕ) → from_agent agent a (receiver.taken ++ waiting) ≡ sent a
accepted zero = refl
accepted (suc zero) = refl
accepted (suc (suc a)) = rw (third a).0 (rw (third a).1 refl)

numbered : (a : ℕ) → IsNumbered number (sent a)
numbered zero zero x at = cc
numbered zero (suc zero) x at = cc
numbered zero (suc (suc place)) x at = cc
numbered (suc zero) zero x at = cc
numbered (suc zero) (suc place) x at = cc
numbered (suc (suc a)) place x at = cc

others : (a : ℕ) → 2 ≤ a → (sent a ≡ []) × (back_from a receiver ≡ [])
others zero past = absurd (omega arith)
others (suc zero) past = absurd (omega arith)
others (suc (suc a)) past = (refl, refl)

passes : (pass : ℕ) (token : LaneKnowledge Item) → get_elem? tokens pass ≡ some token → Knows 2 receiver 0 sent suc pass token
passes zero token at = subst (λ (it : LaneKnowledge Item). Knows 2 receiver 0 sent suc 0 it) (some-injective (Takes 2 receiver) token at) (refl, refl, refl)
passes (suc zero) token at =
    subst (λ (it : LaneKnowledge Item). Knows 2 receiver 0 sent suc 1 it) (some-injective (Sends 2 (record { agent = 0; sent = sent 0 })) token at) (refl, refl, refl, omega arith, refl)
passes (suc (suc zero)) token at =
    subst (λ (it : LaneKnowledge Item). Knows 2 receiver 0 sent suc 2 it) (some-injective (Sends 2 (record { agent = 1; sent = sent 1 })) token at) (refl, refl, refl, omega arith, refl)
passes (suc (suc (suc pass))) token at = absurd (some-ne-none token (sym at))

-- such a lane meets the rule
pub a_lane : IsLane agent number waiting tokens
a_lane = record {
  capacity = 2;
  receiver = receiver;
  reader = 0;
  sent = sent;
  seat = suc;
  within = omega arith;
  accepted = accepted;
  numbered = numbered;
  others = others;
  back = λ a. inl refl;
  passes = passes;
}

-- no lane for one item holds two, whatever its halves know
pub no_lane_overfull : (items : List Item) (halves : List (LaneKnowledge Item)) (lane : IsLane agent number (item 0 0 ∷ item 0 1 ∷ items) halves) → lane.capacity ≡ 1 → ⊥
no_lane_overfull items halves lane one = let within : suc (suc (length items)) ≤ lane.capacity = lane.within in omega arith

one_is_not_zero : (one : ℕ) → one ≡ 1 → one ≡ 0 → ⊥
one_is_not_zero one is not = omega arith

-- no lane that has taken nothing holds two items of one agent in exchanged order, whatever its halves know
pub no_lane_exchanged : (halves : List (LaneKnowledge Item)) (lane : IsLane agent number (item 0 1 ∷ item 0 0 ∷ []) halves) → lane.receiver.taken ≡ [] → ⊥
no_lane_exchanged halves lane none =
    let all : from_agent agent 0 (item 0 1 ∷ item 0 0 ∷ []) ≡ lane.sent 0 = ap (λ (taken : List Item). from_agent agent 0 (taken ++ item 0 1 ∷ item 0 0 ∷ [])) (sym none) ∙ lane.accepted 0 in
    one_is_not_zero 1 refl (lane.numbered 0 0 (item 0 1) (ap (λ (items : List Item). slice_get items 0) (sym all)))
