-- The close: once all halves have come back, what the lane accepted is what they sent.
use Rattle.std.proofs.Common.{◌≡◌, ◌≢◌, ◌⊎◌, ℕ, zero, suc, ◌+◌, ◌-◌, ◌*◌, ◌%◌, ◌^◌, ◌<◌, ◌≤◌, List, [], ◌∷◌, ◌++◌, map, length, ◌==◌, Bool, true, false, refl, ap, sym, ◌∙◌, subst, inl, inr, append_assoc, length-append, lt_of_not-le, arith}
use Rattle.std.specs.List.{All, slice_index_or, sum_by}
use Rattle.std.proofs.lemmas.List.{append-nil, map-append}
use Rattle.std.proofs.Math.Nat.{mod-eq_of_lt}
use Rattle.std.proofs.lemmas.List.Elements.{All-cons, All-nil, filter-append}
use Rattle.std.proofs.lemmas.List.Sums.{sum_by-cons, sum_by-append}
use mathlib.Core.List.{IsPrefix}
use native.Mathlib.Decide.{dec_le}
use Rattle.crossbeam_channel.specs.Claims.{Pass, view}
use Rattle.dsn_outcome.specs.Agents.{from_agent}
use Rattle.dsn_crew.proofs.lane.AgentLemmas.{seam_mine}
use Rattle.dsn_crew.proofs.LaneHalfLemmas.{fresh_one, fresh_past, length-fresh}
use Rattle.dsn_crew.proofs.lane.SumLemmas.{sum_below, sum_below-same, by_agents, all_one, sum_by-one}
use Rattle.dsn_crew.specs.lane.Halves.{Identity, Half, Out, IsAccepted}
use Rattle.dsn_crew.specs.inner.Halves.{IsReceiving, capacity_of, fresh, lane_of, out_of, sending_of, taking}
use Rattle.dsn_crew.specs.lane.Lane.{back_from}
use Rattle.dsn_crew.specs.inner.Step.{Settles, after_join, known_after}
use Rattle.dsn_crew.specs.declared.lane.lane_knowledge.Sending.{Sending}
use Rattle.dsn_crew.specs.declared.lane.lane_knowledge.Taking.{Taking}
use Rattle.dsn_crew.specs.declared.lane.lane_knowledge.LaneKnowledge.{LaneKnowledge}
use Rattle.dsn_crew.specs.declared.lane.lane_knowledge.LaneKnowledge.TheVariants.{Sends, Takes}

-- ---- lists of halves

-- if a list with `x` in it has one item, the item is `x`
only_one : {A : Type 0} (front : List A) (x y : A) (rest : List A) → front ++ x ∷ rest ≡ y ∷ [] → x ≡ y
only_one [] x y rest e = cc
only_one (first ∷ []) x y rest e = absurd cc
only_one (first ∷ second ∷ front) x y rest e = absurd cc

not_none : {A : Type 0} (front : List A) (x : A) (rest : List A) → front ++ x ∷ rest ≢ []
not_none [] x rest e = absurd cc
not_none (first ∷ front) x rest e = absurd cc

-- what the first of some halves sent
abbrev sent_first : {T : Type 0} → List (Sending T) → List T
sent_first [] = []
sent_first (half ∷ halves) = half.sent

-- who has sent nothing has sent no item
sizes_fresh : (T : Type 0) (first more : ℕ) → sum_by (λ (half : Sending T). length half.sent) (fresh first more) ≡ 0
sizes_fresh T first zero = refl
sizes_fresh T first (suc more) =
    let rest = sizes_fresh T (suc first) more in
    sum_by-cons (λ (half : Sending T). length half.sent) (record { agent = first; sent = [] }) (fresh (suc first) more) ∙ omega arith

module _ {T : Type 0} where
  abbrev of : ℕ → List (Sending T) → List (Sending T)
  of a halves = from_agent (λ (half : Sending T). half.agent) a halves

  abbrev size : Sending T → ℕ
  size half = length half.sent

  abbrev one : ℕ → List T → Sending T
  one a sent = record { agent = a; sent = sent }

  -- where each agent's half is at most one, with what `sent` says, each half sent that
  each_half : (sent : ℕ → List T) (front : List (Sending T)) (halves : List (Half T)) → ((a : ℕ) → (of a (front ++ map sending_of halves) ≡ []) ⊎ (of a (front ++ map sending_of halves) ≡ one a (sent a) ∷ [])) → All (λ (half : Half T). sent half.agent ≡ half.sent) halves
  each_half sent front [] single = All-nil (λ (half : Half T). sent half.agent ≡ half.sent)
  each_half sent front (half ∷ halves) single =
      let it : Sending T = sending_of half in
      let seam : of half.agent (front ++ it ∷ map sending_of halves) ≡ of half.agent front ++ it ∷ of half.agent (map sending_of halves) = seam_mine (λ (e : Sending T). e.agent) half.agent front it (map sending_of halves) refl in
      let here : sent half.agent ≡ half.sent =
      elim (single half.agent) [
        | inl none ↦ absurd (not_none (of half.agent front) it (of half.agent (map sending_of halves)) (sym seam ∙ none))
        | inr alone ↦ sym (ap (λ (e : Sending T). e.sent) (only_one (of half.agent front) it (one half.agent (sent half.agent)) (of half.agent (map sending_of halves)) (sym seam ∙ alone)))
      ]
      in
      let assoc : (front ++ it ∷ []) ++ map sending_of halves ≡ front ++ it ∷ map sending_of halves = append_assoc front (it ∷ []) (map sending_of halves) in
      let rest = each_half sent (front ++ it ∷ []) halves (λ a. subst (λ (all : List (Sending T)). (of a all ≡ []) ⊎ (of a all ≡ one a (sent a) ∷ [])) (sym assoc) (single a)) in
      All-cons (λ (e : Half T). sent e.agent ≡ e.sent) half halves here rest

  of_map_step : (a : ℕ) (half : Half T) (halves : List (Half T)) (is : Bool) → (half.agent == a) ≡ is → of a (map sending_of halves) ≡ map sending_of (from_agent (λ (e : Half T). e.agent) a halves) → of a (map sending_of (half ∷ halves)) ≡ map sending_of (from_agent (λ (e : Half T). e.agent) a (half ∷ halves))
  of_map_step a half halves true is rest = rw is (ap (λ (es : List (Sending T)). sending_of half ∷ es) rest)
  of_map_step a half halves false is rest = rw is rest

  of_map : (a : ℕ) (halves : List (Half T)) → of a (map sending_of halves) ≡ map sending_of (from_agent (λ (e : Half T). e.agent) a halves)
  of_map a [] = refl
  of_map a (half ∷ halves) = of_map_step a half halves (half.agent == a) refl (of_map a halves)

  sizes_map : (halves : List (Half T)) → sum_by size (map sending_of halves) ≡ sum_by (λ (half : Half T). length half.sent) halves
  sizes_map [] = refl
  sizes_map (half ∷ halves) =
      let rest = sizes_map halves in
      sum_by-cons size (sending_of half) (map sending_of halves) ∙ (ap (λ (n : ℕ). length half.sent + n) rest ∙ sym (sum_by-cons (λ (e : Half T). length e.sent) half halves))

  length_map : (halves : List (Half T)) → length (map sending_of halves) ≡ length halves
  length_map [] = refl
  length_map (half ∷ halves) = ap suc (length_map halves)

  -- ---- all halves have come back

  pub record IsWhole (agent number : T → ℕ) (capacity : ℕ) (known : Taking T) (waiting : List T) (first : ℕ) (halves : List (Half T)) : Type 0 where
    pub settled : Settles agent number capacity known waiting
    pub back : known.back ≡ fresh 0 first ++ map sending_of halves
    pub all : first + length halves ≡ known.made

  module _ (agent number : T → ℕ) (capacity : ℕ) (known : Taking T) (waiting : List T) (first : ℕ) (halves : List (Half T)) (whole : IsWhole agent number capacity known waiting first halves) where
    abbrev accepted : List T
    accepted = known.taken ++ waiting

    abbrev count : ℕ → ℕ
    count a = sum_by (λ _. 1) (back_from a known)

    count_most : (a : ℕ) → count a ≤ 1
    count_most a =
        elim (whole.settled.back a) [
          | inl none ↦ let P : List (Sending T) → Type 0 = λ halves. sum_by (λ _. 1) halves ≤ 1 in subst P (sym none) (omega arith)
          | inr alone ↦ let P : List (Sending T) → Type 0 = λ halves. sum_by (λ _. 1) halves ≤ 1 in subst P (sym alone) (omega arith)
        ]

    count_all : sum_below known.made count ≡ known.made
    count_all =
        by_agents (λ (half : Sending T). half.agent) (λ _. 1) known.made known.back (λ a past. (whole.settled.others a past).1)
        ∙ (sum_by-one known.back
        ∙ (ap length whole.back
        ∙ (length-append (fresh 0 first) (map sending_of halves)
        ∙ ((λ i. length-fresh T 0 first i + length_map halves i) ∙ whole.all))))

    -- each agent's half is there, with all that was accepted of it
    there : (a : ℕ) → a < known.made → back_from a known ≡ one a (from_agent agent a accepted) ∷ []
    there a below =
        elim (whole.settled.back a) [
          | inl none ↦
              let P : List (Sending T) → Type 0 = λ halves. sum_by (λ _. 1) halves ≡ 1 in
              let gone : P [] = subst P none (all_one known.made count count_most count_all a below) in
              absurd (omega arith)
          | inr alone ↦ alone
        ]

    -- an agent that none of the halves is of has nothing accepted
    stranger : (a : ℕ) → from_agent (λ (half : Half T). half.agent) a halves ≡ [] → from_agent agent a accepted ≡ []
    stranger a none =
        let parts : back_from a known ≡ of a (fresh 0 first) ++ of a (map sending_of halves) = ap (of a) whole.back ∙ filter-append (λ (half : Sending T). half.agent == a) (fresh 0 first) (map sending_of halves) in
        let last : of a (map sending_of halves) ≡ [] = of_map a halves ∙ ap (map sending_of) none in
        let front : back_from a known ≡ of a (fresh 0 first) = parts ∙ (ap (λ (es : List (Sending T)). of a (fresh 0 first) ++ es) last ∙ append-nil (of a (fresh 0 first))) in
        elim (dec_le known.made a) [
          | yes past ↦ (whole.settled.others a past).0
          | no within ↦
              let here = there a (lt_of_not-le within) in
              elim (dec_le first a) [
                | yes from ↦ let gone : [] ≡ one a (from_agent agent a accepted) ∷ [] = sym (front ∙ fresh_past {T = T} a 0 first (omega arith)) ∙ here in absurd cc
                | no below ↦
                    let less = lt_of_not-le below in
                    let unused : of a (fresh 0 first) ≡ one a [] ∷ [] = fresh_one {T = T} a 0 first (omega arith) (omega arith) in
                    let same : one a [] ∷ [] ≡ one a (from_agent agent a accepted) ∷ [] = sym (front ∙ unused) ∙ here in
                    sym (ap sent_first same)
              ]
        ]

    -- what the lane accepted is what its halves sent
    pub accepted_whole : IsAccepted agent number halves accepted
    accepted_whole = record {
      each = each_half (λ a. from_agent agent a accepted) (fresh 0 first) halves (λ a. subst (λ (all : List (Sending T)). (of a all ≡ []) ⊎ (of a all ≡ one a (from_agent agent a accepted) ∷ [])) whole.back (whole.settled.back a));
      others = stranger;
      numbered = whole.settled.numbered;
    }

    sizes_there : (a : ℕ) → a < known.made → sum_by (λ _. 1) (from_agent agent a accepted) ≡ sum_by size (back_from a known)
    sizes_there a below =
        let sizes : sum_by size (back_from a known) ≡ length (from_agent agent a accepted) + 0 = ap (sum_by size) (there a below) ∙ sum_by-cons size (one a (from_agent agent a accepted)) [] in
        sum_by-one (from_agent agent a accepted) ∙ omega arith

    -- as many items as the halves sent
    pub accepted_sum : length known.taken + length waiting ≡ sum_by (λ (half : Half T). length half.sent) halves
    accepted_sum =
        let items : sum_below known.made (λ a. sum_by (λ _. 1) (from_agent agent a accepted)) ≡ sum_by (λ _. 1) accepted = by_agents agent (λ _. 1) known.made accepted (λ a past. (whole.settled.others a past).0) in
        let parts : sum_below known.made (λ a. sum_by size (back_from a known)) ≡ sum_by size known.back = by_agents (λ (half : Sending T). half.agent) size known.made known.back (λ a past. (whole.settled.others a past).1) in
        let same = sum_below-same known.made (λ a. sum_by (λ _. 1) (from_agent agent a accepted)) (λ a. sum_by size (back_from a known)) sizes_there in
        let in_parts : sum_by size known.back ≡ 0 + sum_by (λ (half : Half T). length half.sent) halves =
        ap (sum_by size) whole.back ∙ (sum_by-append size (fresh 0 first) (map sending_of halves) ∙ (λ i. sizes_fresh T 0 first i + sizes_map halves i))
        in
        let halves_sum : sum_by size known.back ≡ sum_by (λ (half : Half T). length half.sent) halves = omega arith in
        sym (length-append known.taken waiting) ∙ (sym (sum_by-one accepted) ∙ (sym items ∙ (same ∙ (parts ∙ halves_sum))))

    -- what was taken of each half's agent is a front of what that half sent
    pub taken_prefix : All (λ (half : Half T). IsPrefix (from_agent agent half.agent known.taken) half.sent) halves
    taken_prefix k d within =
        let half : Half T = slice_index_or halves k d in (
          from_agent agent half.agent waiting,
          sym (filter-append (λ item. agent item == half.agent) known.taken waiting) ∙ accepted_whole.each k d within,
        )

-- ---- taking the halves back, one after another

-- what the receiving half knows once it has taken these halves back
unfoldable pub after_joins : {T : Type 0} → LaneKnowledge T → List (Half T) → LaneKnowledge T
after_joins token [] = token
after_joins token (half ∷ halves) = after_joins (after_join token (Sends half.lane.capacity (sending_of half))) halves

pub after_joins-takes : {T : Type 0} (capacity : ℕ) (known : Taking T) (halves : List (Half T)) → after_joins (Takes capacity known) halves ≡ Takes capacity (known_after known (map sending_of halves))
unfolding after_joins
after_joins-takes {T} capacity known [] = ap (λ (back : List (Sending T)). Takes capacity (record { made = known.made; taken = known.taken; back = back })) (sym (append-nil known.back))
after_joins-takes {T} capacity known (half ∷ halves) =
    after_joins-takes capacity (known_after known (sending_of half ∷ [])) halves
    ∙ ap (λ (back : List (Sending T)). Takes capacity (record { made = known.made; taken = known.taken; back = back })) (append_assoc known.back (sending_of half ∷ []) (map sending_of halves))

empty : {A : Type 0} (items : List A) → length items ≡ 0 → items ≡ []
empty [] none = refl
empty (item ∷ items) none = absurd (omega arith)

-- what the receiving half knows, with the last half taken back too
pub all_joined : {T : Type 0} (capacity most : ℕ) (old before own after : LaneKnowledge T) (halves left : List (Half T)) (last : Half T) (all : List (Half T)) → old ≡ Takes capacity (taking old) → after_joins before left ≡ after_joins old halves → length left ≡ 0 → own ≡ Sends most (sending_of last) → after ≡ after_join before own → all ≡ halves ++ last ∷ [] → after ≡ Takes capacity (known_after (taking old) (map sending_of all))
unfolding after_joins
all_joined {T} capacity most old before own after halves left last all is joined none own_is after_is all_is =
    let done : before ≡ after_joins old halves = ap (after_joins before) (sym (empty left none)) ∙ joined in
    let known : Taking T = taking old in
    let then : before ≡ Takes capacity (known_after known (map sending_of halves)) = done ∙ (ap (λ (it : LaneKnowledge T). after_joins it halves) is ∙ after_joins-takes capacity known halves) in
    let back : (known.back ++ map sending_of halves) ++ sending_of last ∷ [] ≡ known.back ++ map sending_of all =
    append_assoc known.back (map sending_of halves) (sending_of last ∷ [])
    ∙ ap (λ (es : List (Sending T)). known.back ++ es) (sym (map-append sending_of halves (last ∷ [])) ∙ ap (map sending_of) (sym all_is))
    in
    after_is ∙ ((λ i. after_join (then i) (own_is i)) ∙ ap (λ (es : List (Sending T)). Takes capacity (record { made = known.made; taken = known.taken; back = es })) back)

-- a closed lane: what was taken, what waits, and that both together are what its halves sent
pub record IsShut {T : Type 0} (agent number : T → ℕ) (halves : List (Half T)) (out : Out T) (count sent : ℕ) : Type 0 where
  pub taken : count ≡ length out.taken
  pub below : count ≤ sent
  pub total : count + (sent - count) ≡ sum_by (λ (half : Half T). length half.sent) halves
  pub capacity : sent - count ≤ out.lane.capacity
  pub prefix : All (λ (half : Half T). IsPrefix (from_agent agent half.agent out.taken) half.sent) halves
  pub accepted : (waiting : List T) × (length waiting ≡ sent - count) × IsAccepted agent number halves (out.taken ++ waiting)

shuts_at : {T : Type 0} (agent number : T → ℕ) (known : Taking T) (lane : Identity T) (halves : List (Half T)) (taken sent : ℕ) (waiting : List T) → IsReceiving agent number known taken → Settles agent number lane.capacity (known_after known (map sending_of halves)) waiting → length known.back + length halves ≡ known.made → sent ≡ sum_by (λ (half : Half T). length half.sent) halves → sent < 2 ^ 64 → IsShut agent number halves (record { lane = lane; first = length known.back; past = known.made; taken = known.taken }) taken sent
shuts_at {T} agent number known lane halves taken sent waiting kept settled all total fits =
    let known' : Taking T = known_after known (map sending_of halves) in
    let first : ℕ = length known.back in
    let whole : IsWhole agent number lane.capacity known' waiting first halves = record { settled = settled; back = ap (λ (es : List (Sending T)). es ++ map sending_of halves) kept.passed; all = all } in
    let sum = accepted_sum agent number lane.capacity known' waiting first halves whole in
    let exact : length known.taken % 2 ^ 64 ≡ length known.taken = mod-eq_of_lt (omega arith) in
    let counted = kept.counted in
    let within = settled.within in
    record {
      taken = counted ∙ exact;
      below = omega arith;
      total = omega arith;
      capacity = omega arith;
      prefix = taken_prefix agent number lane.capacity known' waiting first halves whole;
      accepted = (waiting, omega arith, accepted_whole agent number lane.capacity known' waiting first halves whole);
    }

pub shuts : {T : Type 0} (agent number : T → ℕ) (pass : Pass T (LaneKnowledge T)) (out : Out T) (halves : List (Half T)) (taken sent : ℕ) → IsReceiving agent number (taking (view pass)) taken → (waiting : List T) × Settles agent number (capacity_of (view pass)) (known_after (taking (view pass)) (map sending_of halves)) waiting → out_of pass ≡ out → out.first + length halves ≡ out.past → sent ≡ sum_by (λ (half : Half T). length half.sent) halves → sent < 2 ^ 64 → IsShut agent number halves out taken sent
shuts {T} agent number pass out halves taken sent kept settled is all total fits =
    let all' : (out_of pass).first + length halves ≡ (out_of pass).past = subst (λ (o : Out T). o.first + length halves ≡ o.past) (sym is) all in
    subst (λ (o : Out T). IsShut agent number halves o taken sent) is (shuts_at agent number (taking (view pass)) (lane_of pass) halves taken sent settled.0 kept settled.1 all' total fits)

-- one more half is taken back
pub joined_takes : {T : Type 0} (capacity most : ℕ) (old new : LaneKnowledge T) (half : Sending T) → old ≡ Takes capacity (taking old) → new ≡ after_join old (Sends most half) → new ≡ Takes capacity (taking new)
joined_takes {T} capacity most old new half is step =
    let now : new ≡ Takes capacity (known_after (taking old) (half ∷ [])) = step ∙ ap (λ (it : LaneKnowledge T). after_join it (Sends most half)) is in
    subst (λ (it : LaneKnowledge T). it ≡ Takes capacity (taking it)) (sym now) refl

pub joined_more : {T : Type 0} (old new start : LaneKnowledge T) (half : Half T) (left rest all : List (Half T)) → new ≡ after_join old (Sends half.lane.capacity (sending_of half)) → left ≡ half ∷ rest → after_joins old left ≡ after_joins start all → after_joins new rest ≡ after_joins start all
unfolding after_joins
joined_more {T} old new start half left rest all step left_is before =
    ap (λ (it : LaneKnowledge T). after_joins it rest) step ∙ (sym (ap (after_joins old) left_is) ∙ before)

-- what all have sent, by what was counted and what is left
pub total_more : {T : Type 0} (sent count start : ℕ) (half : Half T) (left rest : List (Half T)) → left ≡ half ∷ rest → count ≡ length half.sent → sent + sum_by (λ (it : Half T). length it.sent) left ≡ start → (sent + count) + sum_by (λ (it : Half T). length it.sent) rest ≡ start
total_more {T} sent count start half left rest left_is is before =
    let parts : sum_by (λ (it : Half T). length it.sent) left ≡ length half.sent + sum_by (λ (it : Half T). length it.sent) rest =
    ap (sum_by (λ (it : Half T). length it.sent)) left_is ∙ sum_by-cons (λ (it : Half T). length it.sent) half rest
    in
    omega arith

-- what was counted stays small
pub few_more : (sent count own left rest most : ℕ) → rest + 1 ≡ left → count ≡ own → own < 4294967296 → sent + left * 4294967295 ≤ most → (sent + count) + rest * 4294967295 ≤ most
few_more sent count own left rest most less is small few = omega arith
