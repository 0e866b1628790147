-- The rule: each step on a lane keeps it, and what a step reports is so.
use Rattle.std.proofs.Common.{◌≡◌, ◌≢◌, ◌⊎◌, ℕ, zero, suc, ◌<◌, ◌≤◌, ◌==◌, cond, List, [], ◌∷◌, ◌++◌, length, set, refl, ap, sym, ◌∙◌, subst, inl, inr, ⊎_elim, eq-eqb, ne_eqb, append_assoc, length-append, lt_of_not-le, le_refl, arith}
use Rattle.std.specs.Prelude.{Some}
use Rattle.std.specs.List.{slice_get}
use Rattle.std.proofs.lemmas.List.{append-nil}
use mathlib.Core.Option.{some, some-injective, some-ne-none}
use native.Mathlib.Decide.{ℕ_discrete}
use lib.ListN.{get_elem?}
use Rattle.atomic_table.proofs.Lists.{at_set, set_else}
use Rattle.crossbeam_channel.specs.Fifo.{Pushes, Pops, Forks, Merges, Learns}
use Rattle.dsn_outcome.specs.Agents.{from_agent}
use Rattle.dsn_crew.proofs.lane.AgentLemmas.{get_seam, mine, not_mine, more, more_mine, more_not_mine, seam_mine, numbered_more, numbered_none}
use Rattle.dsn_crew.specs.lane.Lane.{IsLane, IsNumbered, Knows, back_from}
use Rattle.dsn_crew.specs.lane.Step.{opened}
use Rattle.dsn_crew.specs.inner.Step.{after_room, after_split, split_off, after_send, after_take, after_join, known_after, IsNext, Settles, IsLaneSettled}
use Rattle.dsn_crew.specs.declared.lane.lane_knowledge.Sending.{Sending}
use Rattle.dsn_crew.specs.declared.lane.lane_knowledge.Taking.{Taking}
use Rattle.dsn_crew.specs.declared.lane.lane_knowledge.LaneKnowledge.{LaneKnowledge}
use Rattle.dsn_crew.specs.declared.lane.lane_knowledge.LaneKnowledge.TheVariants.{Sends, Takes, Spent}

-- ---- passes

-- what holds of a changed pass, and of every other one, holds of all
all_set : {V : Type 0} (P : ℕ → V → Type 0) (views : List V) (pass : ℕ) (view : V) → P pass view → ((p : ℕ) (v : V) → p ≢ pass → get_elem? views p ≡ some v → P p v) → (p : ℕ) (v : V) → get_elem? (set views pass view) p ≡ some v → P p v
all_set {V} P views pass view here others p v at =
    ⊎_elim (λ (it : (p ≡ pass) × (view ≡ v)). subst (λ (y : ℕ × V). P y.0 y.1) (λ i. (sym it.0 i, it.1 i)) here)
    (λ (it : (p ≢ pass) × (get_elem? views p ≡ some v)). others p v it.0 it.1) (at_set views pass p view v at)

-- a pass among these and one more is one of these, or the last one
at_last : {V : Type 0} (views : List V) (view : V) (p : ℕ) (v : V) → get_elem? (views ++ view ∷ []) p ≡ some v → (get_elem? views p ≡ some v) ⊎ ((p ≡ length views) × (view ≡ v))
at_last [] view zero v at = inr (refl, some-injective view v at)
at_last [] view (suc p) v at = absurd (some-ne-none v (sym at))
at_last (first ∷ views) view zero v at = inl at
at_last (first ∷ views) view (suc p) v at = elim (at_last views view p v at) [ inl here ↦ inl here | inr half ↦ inr (ap suc half.0, half.1) ]

all_last : {V : Type 0} (P : ℕ → V → Type 0) (views : List V) (view : V) → ((p : ℕ) (v : V) → get_elem? views p ≡ some v → P p v) → P (length views) view → (p : ℕ) (v : V) → get_elem? (views ++ view ∷ []) p ≡ some v → P p v
all_last {V} P views view before here p v at =
    ⊎_elim (λ (it : get_elem? views p ≡ some v). before p v it)
    (λ (it : (p ≡ length views) × (view ≡ v)). subst (λ (y : ℕ × V). P y.0 y.1) (λ i. (sym it.0 i, it.1 i)) here) (at_last views view p v at)

-- what the first of some halves sent
abbrev sent_first : {T : Type 0} → List (Sending T) → List T
sent_first [] = []
sent_first (half ∷ halves) = half.sent

-- a half is the record of its agent and what it sent
one_half : {T : Type 0} (half : Sending T) (a : ℕ) (sent : List T) → half.agent ≡ a → half.sent ≡ sent → half ≡ record { agent = a; sent = sent }
one_half half a sent is all = λ i. record { agent = is i; sent = all i }

nil≢cons : {A : Type 0} {x : A} {xs : List A} → [] ≡ x ∷ xs → ⊥
nil≢cons e = cc

module _ {T : Type 0} (agent number : T → ℕ) where
  -- ---- making the lane

  opened_passes : (pass : ℕ) (token : LaneKnowledge T) → get_elem? (opened {T = T} ∷ []) pass ≡ some token → Knows 0 (record { made = 0; taken = []; back = [] }) 0 (λ a. []) (λ a. 0) pass token
  opened_passes zero token at = subst (λ (it : LaneKnowledge T). Knows 0 (record { made = 0; taken = []; back = [] }) 0 (λ a. []) (λ a. 0) 0 it) (some-injective (opened {T = T}) token at) (refl, refl, refl)
  opened_passes (suc pass) token at = absurd (some-ne-none token (sym at))

  pub opens : IsLane agent number [] (opened ∷ [])
  opens = record {
    capacity = 0;
    receiver = record { made = 0; taken = []; back = [] };
    reader = 0;
    sent = λ a. [];
    seat = λ a. 0;
    within = omega arith;
    accepted = λ a. refl;
    numbered = λ a. numbered_none number;
    others = λ a past. (refl, refl);
    back = λ a. inl refl;
    passes = opened_passes;
  }

  -- ---- a send that adds

  -- what another agent sent stays
  sent_stays : (sent : ℕ → List T) (item : T) (a : ℕ) → agent item ≢ a → sent a ++ from_agent agent a (item ∷ []) ≡ sent a
  sent_stays sent item a other = ap (λ (last : List T). sent a ++ last) (not_mine agent a item other) ∙ append-nil (sent a)

  sent_grows : (sent : ℕ → List T) (item : T) (a : ℕ) → agent item ≡ a → sent a ++ from_agent agent a (item ∷ []) ≡ sent a ++ item ∷ []
  sent_grows sent item a same = ap (λ (last : List T). sent a ++ last) (mine agent a item same)

  send_knows : (capacity : ℕ) (receiver : Taking T) (reader : ℕ) (sent : ℕ → List T) (seat : ℕ → ℕ) (item : T) (pass p : ℕ) (token : LaneKnowledge T) → seat (agent item) ≡ pass → p ≢ pass → Knows capacity receiver reader sent seat p token → Knows capacity receiver reader (λ a. sent a ++ from_agent agent a (item ∷ [])) seat p token
  send_knows capacity receiver reader sent seat item pass p (Sends most half) at other knows =
      (knows.0, knows.1, sent_stays sent item half.agent (λ same. other (sym knows.1 ∙ (ap seat (sym same) ∙ at))) ∙ knows.2, knows.3, knows.4)
  send_knows capacity receiver reader sent seat item pass p (Takes most known) at other knows = knows
  send_knows capacity receiver reader sent seat item pass p Spent at other knows = tt

  sends_at : (n pass : ℕ) (half : Sending T) (item : T) → agent item ≡ half.agent → number item ≡ length half.sent → Pushes (IsLane agent number) n pass (Sends n half) item (λ w. w ≡ after_send (Sends n half) item)
  sends_at n pass half item is next waiting tokens room h at =
      let own = h.passes pass (Sends n half) at in
      let most : n ≡ h.capacity = own.0 in
      let sent' : ℕ → List T = λ a. h.sent a ++ from_agent agent a (item ∷ []) in
      let seat : h.seat (agent item) ≡ pass = ap h.seat is ∙ own.1 in
      let grown : h.sent (agent item) ≡ half.sent = ap h.sent is ∙ own.2 in (
        after_send (Sends n half) item,
        record {
          capacity = h.capacity;
          receiver = h.receiver;
          reader = h.reader;
          sent = sent';
          seat = h.seat;
          within = omega (arith, length-append waiting (item ∷ []));
          accepted = λ a.
              ap (from_agent agent a) (sym (append_assoc h.receiver.taken waiting (item ∷ [])))
              ∙ (more agent a (h.receiver.taken ++ waiting) item ∙ ap (λ (front : List T). front ++ from_agent agent a (item ∷ [])) (h.accepted a));
          numbered = λ a.
              elim (ℕ_discrete (agent item) a) [
                | yes same ↦ subst (IsNumbered number) (sym (sent_grows h.sent item a same)) (numbered_more number (h.sent a) item (h.numbered a) (next ∙ ap length (sym grown ∙ ap h.sent same)))
                | no other ↦ subst (IsNumbered number) (sym (sent_stays h.sent item a other)) (h.numbered a)
              ];
          others = λ a past.
              (sent_stays h.sent item a (λ same. let below : half.agent < h.receiver.made = own.3 in absurd (omega arith)) ∙ (h.others a past).0, (h.others a past).1);
          back = λ a.
              elim (ℕ_discrete (agent item) a) [
                | yes same ↦ inl (ap (λ (b : ℕ). back_from b h.receiver) (sym same ∙ is) ∙ own.4)
                | no other ↦ elim (h.back a) [
                  | inl none ↦ inl none
                  | inr one ↦ inr (one ∙ ap (λ (items : List T). record { agent = a; sent = items } ∷ []) (sym (sent_stays h.sent item a other)))
                ]
              ];
          passes =
              all_set (Knows h.capacity h.receiver h.reader sent' h.seat) tokens pass (after_send (Sends n half) item)
              (own.0, own.1, sent_grows h.sent item half.agent is ∙ ap (λ (front : List T). front ++ item ∷ []) own.2, own.3, own.4)
              (λ p token other there. send_knows h.capacity h.receiver h.reader h.sent h.seat item pass p token seat other (h.passes p token there));
        },
        refl,
      )

  pub sends : (n pass : ℕ) (token : LaneKnowledge T) (half : Sending T) (item : T) → token ≡ Sends n half → agent item ≡ half.agent → number item ≡ length half.sent → Pushes (IsLane agent number) n pass token item (λ w. w ≡ after_send token item)
  sends n pass token half item is own next =
      subst (λ (it : LaneKnowledge T). Pushes (IsLane agent number) n pass it item (λ w. w ≡ after_send it item)) (sym is) (sends_at n pass half item own next)

  -- ---- a receive that takes

  take_knows : (capacity : ℕ) (receiver after : Taking T) (reader : ℕ) (sent : ℕ → List T) (seat : ℕ → ℕ) (pass p : ℕ) (token : LaneKnowledge T) → after.made ≡ receiver.made → after.back ≡ receiver.back → reader ≡ pass → p ≢ pass → Knows capacity receiver reader sent seat p token → Knows capacity after reader sent seat p token
  take_knows capacity receiver after reader sent seat pass p (Sends most half) made back reads other knows =
      (knows.0, knows.1, knows.2, subst (λ (n : ℕ). half.agent < n) (sym made) knows.3, ap (λ (halves : List (Sending T)). from_agent (λ (e : Sending T). e.agent) half.agent halves) back ∙ knows.4)
  take_knows capacity receiver after reader sent seat pass p (Takes most known) made back reads other knows = absurd (other (sym knows.1 ∙ reads))
  take_knows capacity receiver after reader sent seat pass p Spent made back reads other knows = tt

  -- an item that waits at the front was sent by its agent, behind what was taken of that agent
  front_sent : (waiting : List T) (tokens : List (LaneKnowledge T)) (item : T) (h : IsLane agent number (item ∷ waiting) tokens) → slice_get (h.sent (agent item)) (length (from_agent agent (agent item) h.receiver.taken)) ≡ Some item
  front_sent waiting tokens item h =
      let a : ℕ = agent item in
      let front : List T = from_agent agent a h.receiver.taken in
      let all : front ++ item ∷ from_agent agent a waiting ≡ h.sent a = sym (seam_mine agent a h.receiver.taken item waiting refl) ∙ h.accepted a in
      subst (λ (items : List T). slice_get items (length front) ≡ Some item) all (get_seam front item (from_agent agent a waiting))

  not_there : (items : List T) (place : ℕ) (item : T) → slice_get items place ≡ Some item → items ≢ []
  not_there items place item at none =
      let gone : slice_get {X = T} [] place ≡ Some item = subst (λ (xs : List T). slice_get xs place ≡ Some item) none at in absurd cc

  is_next : (waiting : List T) (tokens : List (LaneKnowledge T)) (item : T) (h : IsLane agent number (item ∷ waiting) tokens) → IsNext agent number (Takes h.capacity h.receiver) item
  is_next waiting tokens item h =
      let a : ℕ = agent item in
      let at = front_sent waiting tokens item h in
      let some_sent : h.sent a ≢ [] = not_there (h.sent a) (length (from_agent agent a h.receiver.taken)) item at in (
        lt_of_not-le (λ past. some_sent (h.others a past).0),
        h.numbered a (length (from_agent agent a h.receiver.taken)) item at,
        λ one. elim (h.back a) [
          | inl none ↦ nil≢cons (sym none ∙ one)
          | inr came ↦ some_sent (ap sent_first (sym came ∙ one))
        ],
      )

  takes_at : (capacity pass : ℕ) (known : Taking T) → Pops (IsLane agent number) pass (Takes capacity known) (λ item w. (w ≡ after_take (Takes capacity known) item) × IsNext agent number (Takes capacity known) item)
  takes_at capacity pass known item waiting tokens h at =
      let own = h.passes pass (Takes capacity known) at in
      let held : suc (length waiting) ≤ h.capacity = h.within in
      let receiver' : Taking T = record { made = h.receiver.made; taken = h.receiver.taken ++ item ∷ []; back = h.receiver.back } in (
        after_take (Takes capacity known) item,
        record {
          capacity = h.capacity;
          receiver = receiver';
          reader = h.reader;
          sent = h.sent;
          seat = h.seat;
          within = omega arith;
          accepted = λ a. ap (from_agent agent a) (append_assoc h.receiver.taken (item ∷ []) waiting) ∙ h.accepted a;
          numbered = h.numbered;
          others = h.others;
          back = h.back;
          passes =
              all_set (Knows h.capacity receiver' h.reader h.sent h.seat) tokens pass (after_take (Takes capacity known) item)
              (own.0, own.1, ap (λ (it : Taking T). record { made = it.made; taken = it.taken ++ item ∷ []; back = it.back }) own.2)
              (λ p token other there. take_knows h.capacity h.receiver receiver' h.reader h.sent h.seat pass p token refl refl own.1 other (h.passes p token there));
        },
        (refl, subst (λ (it : Taking T). IsNext agent number (Takes capacity it) item) own.2 (is_next waiting tokens item h)),
      )

  pub takes : (pass : ℕ) (token : LaneKnowledge T) (capacity : ℕ) (known : Taking T) → token ≡ Takes capacity known → Pops (IsLane agent number) pass token (λ item w. (w ≡ after_take token item) × IsNext agent number token item)
  takes pass token capacity known is =
      subst (λ (it : LaneKnowledge T). Pops (IsLane agent number) pass it (λ item w. (w ≡ after_take it item) × IsNext agent number it item)) (sym is) (takes_at capacity pass known)

  -- ---- counting room

  -- as long as no agent has a half, the receiving half's pass alone says how much room there is
  room_knows : (capacity : ℕ) (receiver : Taking T) (reader : ℕ) (sent : ℕ → List T) (seat : ℕ → ℕ) (pass p : ℕ) (token : LaneKnowledge T) → receiver.made ≡ 0 → reader ≡ pass → p ≢ pass → Knows capacity receiver reader sent seat p token → Knows (suc capacity) receiver reader sent seat p token
  room_knows capacity receiver reader sent seat pass p (Sends most half) none reads other knows = let below : half.agent < receiver.made = knows.3 in absurd (omega arith)
  room_knows capacity receiver reader sent seat pass p (Takes most known) none reads other knows = absurd (other (sym knows.1 ∙ reads))
  room_knows capacity receiver reader sent seat pass p Spent none reads other knows = tt

  rooms_at : (capacity pass : ℕ) (known : Taking T) → known.made ≡ 0 → Forks (IsLane agent number) pass (Takes capacity known) (after_room (Takes capacity known)) Spent
  rooms_at capacity pass known none waiting tokens h at =
      let own = h.passes pass (Takes capacity known) at in
      let held = h.within in
      let made : h.receiver.made ≡ 0 = ap (λ (it : Taking T). it.made) own.2 ∙ none in record {
        capacity = suc h.capacity;
        receiver = h.receiver;
        reader = h.reader;
        sent = h.sent;
        seat = h.seat;
        within = omega arith;
        accepted = h.accepted;
        numbered = h.numbered;
        others = h.others;
        back = h.back;
        passes =
            all_last (Knows (suc h.capacity) h.receiver h.reader h.sent h.seat) (set tokens pass (after_room (Takes capacity known))) Spent
            (all_set (Knows (suc h.capacity) h.receiver h.reader h.sent h.seat) tokens pass (after_room (Takes capacity known)) (ap suc own.0, own.1, own.2)
            (λ p token other there. room_knows h.capacity h.receiver h.reader h.sent h.seat pass p token made own.1 other (h.passes p token there)))
            tt;
      }

  pub rooms : (pass : ℕ) (token : LaneKnowledge T) (capacity : ℕ) (known : Taking T) → token ≡ Takes capacity known → known.made ≡ 0 → Forks (IsLane agent number) pass token (after_room token) Spent
  rooms pass token capacity known is none = subst (λ (it : LaneKnowledge T). Forks (IsLane agent number) pass it (after_room it) Spent) (sym is) (rooms_at capacity pass known none)

  -- ---- splitting off an agent's pass

  seat_after : ℕ → ℕ → (ℕ → ℕ) → ℕ → ℕ
  seat_after made pass seat a = cond (a == made) pass (seat a)

  seat_new : (made pass : ℕ) (seat : ℕ → ℕ) → seat_after made pass seat made ≡ pass
  unfolding seat_after
  seat_new made pass seat = rw (eq-eqb made made refl) refl

  seat_old : (made pass : ℕ) (seat : ℕ → ℕ) (a : ℕ) → a ≢ made → seat_after made pass seat a ≡ seat a
  unfolding seat_after
  seat_old made pass seat a other = rw (ne_eqb a made other) refl

  split_knows : (capacity : ℕ) (receiver : Taking T) (reader : ℕ) (sent : ℕ → List T) (seat : ℕ → ℕ) (new pass p : ℕ) (token : LaneKnowledge T) → reader ≡ pass → p ≢ pass → Knows capacity receiver reader sent seat p token → Knows capacity (record { made = suc receiver.made; taken = receiver.taken; back = receiver.back }) reader sent (seat_after receiver.made new seat) p token
  split_knows capacity receiver reader sent seat new pass p (Sends most half) reads other knows =
      let below : half.agent < receiver.made = knows.3 in
      (knows.0, seat_old receiver.made new seat half.agent (λ same. absurd (omega arith)) ∙ knows.1, knows.2, omega arith, knows.4)
  split_knows capacity receiver reader sent seat new pass p (Takes most known) reads other knows = absurd (other (sym knows.1 ∙ reads))
  split_knows capacity receiver reader sent seat new pass p Spent reads other knows = tt

  splits_at : (capacity pass : ℕ) (known : Taking T) → Forks (IsLane agent number) pass (Takes capacity known) (after_split (Takes capacity known)) (split_off (Takes capacity known))
  splits_at capacity pass known waiting tokens h at =
      let own = h.passes pass (Takes capacity known) at in
      let tokens' : List (LaneKnowledge T) = set tokens pass (after_split (Takes capacity known)) in
      let new : ℕ = length tokens' in
      let receiver' : Taking T = record { made = suc h.receiver.made; taken = h.receiver.taken; back = h.receiver.back } in
      let seat' : ℕ → ℕ = seat_after h.receiver.made new h.seat in
      let made : h.receiver.made ≡ known.made = ap (λ (it : Taking T). it.made) own.2 in
      let fresh = h.others h.receiver.made (le_refl h.receiver.made) in
      let knew : Knows h.capacity receiver' h.reader h.sent seat' new (Sends capacity (record { agent = h.receiver.made; sent = [] })) =
      (own.0, seat_new h.receiver.made new h.seat, fresh.0, omega arith, fresh.1)
      in
      record {
        capacity = h.capacity;
        receiver = receiver';
        reader = h.reader;
        sent = h.sent;
        seat = seat';
        within = h.within;
        accepted = h.accepted;
        numbered = h.numbered;
        others = λ a past. h.others a (omega arith);
        back = h.back;
        passes =
            all_last (Knows h.capacity receiver' h.reader h.sent seat') tokens' (split_off (Takes capacity known))
            (all_set (Knows h.capacity receiver' h.reader h.sent seat') tokens pass (after_split (Takes capacity known))
            (own.0, own.1, ap (λ (it : Taking T). record { made = suc it.made; taken = it.taken; back = it.back }) own.2)
            (λ p token other there. split_knows h.capacity h.receiver h.reader h.sent h.seat new pass p token own.1 other (h.passes p token there)))
            (subst (λ (n : ℕ). Knows h.capacity receiver' h.reader h.sent seat' new (Sends capacity (record { agent = n; sent = [] }))) made knew);
      }

  pub splits : (pass : ℕ) (token : LaneKnowledge T) (capacity : ℕ) (known : Taking T) → token ≡ Takes capacity known → Forks (IsLane agent number) pass token (after_split token) (split_off token)
  splits pass token capacity known is = subst (λ (it : LaneKnowledge T). Forks (IsLane agent number) pass it (after_split it) (split_off it)) (sym is) (splits_at capacity pass known)

  -- ---- joining a pass at the close

  abbrev with_back : Taking T → Sending T → Taking T
  with_back receiver half = known_after receiver (half ∷ [])

  back_stays : (receiver : Taking T) (half : Sending T) (a : ℕ) → half.agent ≢ a → back_from a (with_back receiver half) ≡ back_from a receiver
  back_stays receiver half a other = more_not_mine (λ (e : Sending T). e.agent) a receiver.back half other

  back_grows : (receiver : Taking T) (half : Sending T) (a : ℕ) → half.agent ≡ a → back_from a receiver ≡ [] → back_from a (with_back receiver half) ≡ half ∷ []
  back_grows receiver half a same none = more_mine (λ (e : Sending T). e.agent) a receiver.back half same ∙ ap (λ (front : List (Sending T)). front ++ half ∷ []) none

  join_knows : (capacity : ℕ) (receiver : Taking T) (half : Sending T) (reader : ℕ) (sent : ℕ → List T) (seat : ℕ → ℕ) (pass other p : ℕ) (token : LaneKnowledge T) → reader ≡ pass → seat half.agent ≡ other → p ≢ pass → p ≢ other → Knows capacity receiver reader sent seat p token → Knows capacity (with_back receiver half) reader sent seat p token
  join_knows capacity receiver half reader sent seat pass other p (Sends most its) reads at away apart knows =
      (knows.0, knows.1, knows.2, knows.3, back_stays receiver half its.agent (λ same. apart (sym knows.1 ∙ (ap seat (sym same) ∙ at))) ∙ knows.4)
  join_knows capacity receiver half reader sent seat pass other p (Takes most known) reads at away apart knows = absurd (away (sym knows.1 ∙ reads))
  join_knows capacity receiver half reader sent seat pass other p Spent reads at away apart knows = tt

  joins_at : (capacity pass : ℕ) (known : Taking T) (most other : ℕ) (half : Sending T) → Merges (IsLane agent number) pass (Takes capacity known) other (Sends most half) (after_join (Takes capacity known) (Sends most half)) Spent
  joins_at capacity pass known most other half waiting tokens h at two there =
      let own = h.passes pass (Takes capacity known) at in
      let was : get_elem? tokens other ≡ some (Sends most half) = sym (set_else tokens pass other (after_join (Takes capacity known) (Sends most half)) two) ∙ there in
      let its = h.passes other (Sends most half) was in
      let receiver' : Taking T = with_back h.receiver half in
      let tokens' : List (LaneKnowledge T) = set tokens pass (after_join (Takes capacity known) (Sends most half)) in record {
        capacity = h.capacity;
        receiver = receiver';
        reader = h.reader;
        sent = h.sent;
        seat = h.seat;
        within = h.within;
        accepted = h.accepted;
        numbered = h.numbered;
        others = λ a past.
            let below : half.agent < h.receiver.made = its.3 in
            ((h.others a past).0, back_stays h.receiver half a (λ same. absurd (omega arith)) ∙ (h.others a past).1);
        back = λ a.
            elim (ℕ_discrete half.agent a) [
              | yes same ↦ inr (
                  back_grows h.receiver half a same (ap (λ (b : ℕ). back_from b h.receiver) (sym same) ∙ its.4)
                  ∙ ap (λ (it : Sending T). it ∷ []) (one_half half a (h.sent a) same (sym its.2 ∙ ap h.sent same)))
              | no apart ↦ elim (h.back a) [
                | inl none ↦ inl (back_stays h.receiver half a apart ∙ none)
                | inr one ↦ inr (back_stays h.receiver half a apart ∙ one)
              ]
            ];
        passes =
            all_set (Knows h.capacity receiver' h.reader h.sent h.seat) tokens' other Spent tt
            (λ p token apart there'.
            all_set (λ p token. p ≢ other → Knows h.capacity receiver' h.reader h.sent h.seat p token) tokens pass (after_join (Takes capacity known) (Sends most half))
            (λ _. (own.0, own.1, ap (λ (it : Taking T). with_back it half) own.2))
            (λ p token away there'' apart. join_knows h.capacity h.receiver half h.reader h.sent h.seat pass other p token own.1 its.1 away apart (h.passes p token there''))
            p token there' apart);
      }

  pub joins : (pass : ℕ) (token : LaneKnowledge T) (other : ℕ) (its : LaneKnowledge T) (capacity : ℕ) (known : Taking T) (most : ℕ) (half : Sending T) → token ≡ Takes capacity known → its ≡ Sends most half → Merges (IsLane agent number) pass token other its (after_join token its) Spent
  joins pass token other its capacity known most half is its_is =
      subst (λ (it : LaneKnowledge T × LaneKnowledge T). Merges (IsLane agent number) pass it.0 other it.1 (after_join it.0 it.1) Spent) (λ i. (sym is i, sym its_is i)) (joins_at capacity pass known most other half)

  -- ---- reading the joined pass

  settles_at : (capacity pass : ℕ) (known : Taking T) → Learns (IsLane agent number) pass (Takes capacity known) (IsLaneSettled agent number (Takes capacity known))
  settles_at capacity pass known waiting tokens h at =
      let own = h.passes pass (Takes capacity known) at in
      let most : capacity ≡ h.capacity = own.0 in
      let held = h.within in
      let here : Settles agent number capacity h.receiver waiting = record {
        within = omega arith;
        others = λ a past. (h.accepted a ∙ (h.others a past).0, (h.others a past).1);
        back = λ a. elim (h.back a) [ inl none ↦ inl none | inr one ↦ inr (one ∙ ap (λ (items : List T). record { agent = a; sent = items } ∷ []) (sym (h.accepted a))) ];
        numbered = λ a. subst (IsNumbered number) (sym (h.accepted a)) (h.numbered a);
      } in
      subst (λ (it : Taking T). Settles agent number capacity it waiting) own.2 here

  pub settles : (pass : ℕ) (token : LaneKnowledge T) (capacity : ℕ) (known : Taking T) → token ≡ Takes capacity known → Learns (IsLane agent number) pass token (IsLaneSettled agent number token)
  settles pass token capacity known is = subst (λ (it : LaneKnowledge T). Learns (IsLane agent number) pass it (IsLaneSettled agent number it)) (sym is) (settles_at capacity pass known)
