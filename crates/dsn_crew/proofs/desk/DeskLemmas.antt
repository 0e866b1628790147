-- Desks: what one more request, with its answer sent, leaves.
use Rattle.std.proofs.Common.{◌≡◌, ◌≢◌, ℕ, zero, suc, ◌+◌, ◌<◌, ◌≤◌, ◌==◌, Bool, true, false, cond, All, List, [], ◌∷◌, ◌++◌, length, map, set, take, refl, ap, sym, ◌∙◌, subst, append_assoc, eq-eqb, ne_eqb, length-append, arith}
use Rattle.std.specs.Prelude.{IfSome, Option, Some, None, is_some}
use Rattle.std.specs.List.{slice_index_or}
use Rattle.std.proofs.lemmas.List.{append-nil, get_or-set_same, get_or-set_other, set-get_or, length-set}
use Rattle.std.proofs.lemmas.List.Elements.{All-append, All-cons, All-head, All-nil, filter-append}
use Rattle.std.proofs.lemmas.List.Sums.{length-filter, count_by-le-length}
use Rattle.std.proofs.lemmas.Bool.{false≢true}
use mathlib.Core.List.{IsPrefix}
use native.Mathlib.Decide.{ℕ_discrete}
use Rattle.dsn_book.specs.Keeper.{MayCrash}
use Rattle.dsn_book.specs.declared.keeper.Keeper.{Ghosts as Keeper}
use Rattle.dsn_book.specs.Release.{collector, history_next, history_under}
use Rattle.dsn_book.proofs.ReleaseLemmas.{before_answers, next_mine, next_other, under-more}
use Rattle.dsn_device.proofs.ThroughoutLemmas.{stood_still}
use Rattle.dsn_crew.specs.lane.Halves.{Half, Out, Identity}
use Rattle.dsn_outcome.specs.Agents.{from_agent}
use Rattle.dsn_outcome.specs.History.{Exchange, answer_of, answers_after, answers_to}
use Rattle.dsn_outcome.specs.Request.{Request}
use Rattle.dsn_outcome.specs.declared.answer.Answer.{Answer}
use Rattle.dsn_outcome.proofs.HistoryLaws.{answers_more}
use Rattle.dsn_crew.specs.desk.Desk.{AreLeft, Desk, IsDesk, StandsAfter, AreAnswered, IsAnswerSent, answered_more, history, history_before, next_exchange, agent_lanes_of}
use Rattle.dsn_crew.specs.KeeperHistory.{AreNextOf, BeginsWith}
use Rattle.dsn_crew.specs.inner.Desk.{desk_seen}
use Rattle.dsn_crew.specs.inner.Desk.{Intake}
use Rattle.dsn_crew.specs.desk.Intake.{goodbyes, taken_request}
use Rattle.dsn_crew.specs.declared.breach.Breach.{Breach}
use Rattle.dsn_crew.specs.agents.AgentLanes.{AgentLanes, lanes_at}
use Rattle.dsn_crew.proofs.desk.IntakeLemmas.{next_of, are_numbered_first, number_next}

-- ---- the halves of the answer lanes

-- if there is a half, there is a first one
pub first_half : (halves : List (Half Answer)) (k : ℕ) → k < length halves → Half Answer
first_half [] k inside = absurd (omega arith)
first_half (half ∷ halves) k inside = half

-- an answer that was lost leaves all halves as they were
pub sent_none : (old new : List (Half Answer)) (answer : Answer) → (d : Half Answer) → IsAnswerSent false old answer new → new ≡ old
sent_none old new answer d is_sent = is_sent d ∙ set-get_or old answer.agent d

places_set : (lane : Identity Request) (halves : List (Half Answer)) (k : ℕ) (d half : Half Answer) → lanes_at lane half ≡ lanes_at lane (slice_index_or halves k d) → map (lanes_at lane) (set halves k half) ≡ map (lanes_at lane) halves
places_set lane [] k d half same = refl
places_set lane (first ∷ halves) zero d half same = ap (λ (place : AgentLanes). place ∷ map (lanes_at lane) halves) same
places_set lane (first ∷ halves) (suc k) d half same = ap (λ (places : List AgentLanes). lanes_at lane first ∷ places) (places_set lane halves k d half same)

same_place : (lane : Identity Request) (sent : Bool) (half : Half Answer) (answer : Answer) → lanes_at lane (answered_more sent half answer) ≡ lanes_at lane half
same_place lane true half answer = refl
same_place lane false half answer = refl

-- the agents keep their places
pub sent_places : {B : Type 0} (out : Out Request) (old : Desk B) (new : List (Half Answer)) (sent : Bool) (answer : Answer) → (d : Half Answer) → IsAnswerSent sent old.answers answer new → out.lane ≡ old.requests.lane → map (lanes_at out.lane) new ≡ agent_lanes_of old
sent_places out old new sent answer d is_sent lane =
    ap (map (lanes_at out.lane)) (is_sent d)
    ∙ (places_set out.lane old.answers answer.agent d (answered_more sent (slice_index_or old.answers answer.agent d) answer) (same_place out.lane sent (slice_index_or old.answers answer.agent d) answer)
    ∙ ap (λ (it : Identity Request). map (lanes_at it) old.answers) lane)

-- there is room for as many halves as before
pub sent_room : (sent : Bool) (old new : List (Half Answer)) (answer : Answer) (room : ℕ) → (d : Half Answer) → IsAnswerSent sent old answer new → length old ≤ room → length new ≤ room
sent_room sent old new answer room d is_sent enough =
    let same : length new ≡ length old = ap length (is_sent d) ∙ length-set old answer.agent (answered_more sent (slice_index_or old answer.agent d) answer) in
    omega arith

-- ---- one more request

-- the first of the requests behind, and its answer, which is to be sent
pub record IsAsked {B : Type 0} (keeper : Keeper B) (desk : Desk B) (request : Request) (rest : List Request) (answer : Answer) : Type 0 where
  pub kept : IsDesk keeper desk
  pub going : desk.failed ≡ false
  pub behind : desk.behind ≡ request ∷ rest
  pub agent_is : answer.agent ≡ request.agent
  pub number_is : answer.number ≡ request.number

-- how many requests of an agent were taken, with one more
count_of : (a : ℕ) (requests : List Request) (request : Request) (same : Bool) → (request.agent == a) ≡ same → length (from_agent (λ (r : Request). r.agent) a (requests ++ request ∷ [])) ≡ length (from_agent (λ (r : Request). r.agent) a requests) + cond same 1 0
count_of a requests request true is =
    let split = ap length (filter-append (λ (r : Request). r.agent == a) requests (request ∷ [])) ∙ length-append (from_agent (λ (r : Request). r.agent) a requests) (from_agent (λ (r : Request). r.agent) a (request ∷ [])) in
    let one : length (from_agent (λ (r : Request). r.agent) a (request ∷ [])) ≡ 1 = rw is refl in omega arith
count_of a requests request false is =
    let split = ap length (filter-append (λ (r : Request). r.agent == a) requests (request ∷ [])) ∙ length-append (from_agent (λ (r : Request). r.agent) a requests) (from_agent (λ (r : Request). r.agent) a (request ∷ [])) in
    let none : length (from_agent (λ (r : Request). r.agent) a (request ∷ [])) ≡ 0 = rw is refl in omega arith

module _ {B : Type 0} (keeper : Keeper B) (desk : Desk B) (request : Request) (rest : List Request) (answer : Answer) (asked : IsAsked keeper desk request rest answer) where
  next_here : AreNextOf (length desk.answers) desk.requests.taken (request ∷ rest)
  next_here = subst (AreNextOf (length desk.answers) desk.requests.taken) asked.behind asked.kept.next

  from : request.agent < length desk.answers
  from = All-head (λ (r : Request). r.agent < length desk.answers) request rest next_here.from

  number : request.number ≡ length (from_agent (λ (r : Request). r.agent) request.agent desk.requests.taken)
  number = number_next desk.requests.taken rest request next_here.numbered

  -- the agent that asked has an answer lane
  pub within : answer.agent < length desk.answers
  within = let agent = asked.agent_is in let here = from in omega arith

  pub line_agent : (d : Half Answer) → (slice_index_or desk.answers answer.agent d).agent ≡ answer.agent
  line_agent d = asked.kept.lines answer.agent d within

  -- the answer is the next of its lane
  pub line_number : (d : Half Answer) → length (slice_index_or desk.answers answer.agent d).sent ≡ answer.number
  line_number d =
      asked.kept.counted asked.going answer.agent d within
      ∙ (ap (λ (a : ℕ). length (from_agent (λ (r : Request). r.agent) a desk.requests.taken)) asked.agent_is ∙ (sym number ∙ sym asked.number_is))

  pub small : (most : ℕ) → length desk.requests.taken < most → answer.number < most
  small most few =
      let same = asked.number_is in
      let count = length-filter (λ (r : Request). r.agent == request.agent) desk.requests.taken in
      let bound = count_by-le-length (λ (r : Request). r.agent == request.agent) desk.requests.taken in
      omega (arith, number)

  module _ (book : B) (out : Out Request) (halves : List (Half Answer)) (failed : Bool) (taken : out ≡ taken_request desk.requests request) where
    abbrev pub answered_desk : Desk B
    answered_desk = record { start = desk.start; book = book; requests = out; behind = rest; answers = halves; missed = desk.missed; failed = failed; unkept = None }

    long : (sent : Bool) (d : Half Answer) → IsAnswerSent sent desk.answers answer halves → length halves ≡ length desk.answers
    long sent d is_sent = ap length (is_sent d) ∙ length-set desk.answers answer.agent (answered_more sent (slice_index_or desk.answers answer.agent d) answer)

    line_kept : (sent : Bool) (half : Half Answer) → (answered_more sent half answer).agent ≡ half.agent
    line_kept true half = refl
    line_kept false half = refl

    lines_new : (sent : Bool) → IsAnswerSent sent desk.answers answer halves → (a : ℕ) (d : Half Answer) → a < length desk.answers → (slice_index_or halves a d).agent ≡ a
    lines_new sent is_sent a d inside =
        let e : Half Answer = answered_more sent (slice_index_or desk.answers answer.agent d) answer in
        elim (ℕ_discrete a answer.agent) [
          | yes same ↦
              ap (λ (es : List (Half Answer)). (slice_index_or es a d).agent) (is_sent d)
              ∙ (ap (λ (k : ℕ). (slice_index_or (set desk.answers answer.agent e) k d).agent) same
              ∙ (ap (λ (it : Half Answer). it.agent) (get_or-set_same desk.answers answer.agent e d within)
              ∙ (line_kept sent (slice_index_or desk.answers answer.agent d) ∙ (line_agent d ∙ sym same))))
          | no other ↦
              ap (λ (es : List (Half Answer)). (slice_index_or es a d).agent) (is_sent d)
              ∙ (ap (λ (it : Half Answer). it.agent) (get_or-set_other desk.answers answer.agent a e d other) ∙ asked.kept.lines a d inside)
        ]

    -- what was taken is of its agents, with the request more
    mine_new : length halves ≡ length desk.answers → All (λ (r : Request). r.agent < length halves) out.taken
    mine_new same =
        let here = from in
        subst (All (λ (r : Request). r.agent < length halves)) (sym (ap (λ (o : Out Request). o.taken) taken))
        (All-append (λ (r : Request). r.agent < length halves) desk.requests.taken (request ∷ [])
        (subst (λ (n : ℕ). All (λ (r : Request). r.agent < n) desk.requests.taken) (sym same) asked.kept.mine)
        (All-cons (λ (r : Request). r.agent < length halves) request [] (omega arith) (All-nil (λ (r : Request). r.agent < length halves))))

    -- and so each agent was answered as often as it asked
    counted_new : IsAnswerSent true desk.answers answer halves → (a : ℕ) (d : Half Answer) → a < length desk.answers → length (slice_index_or halves a d).sent ≡ length (from_agent (λ (r : Request). r.agent) a out.taken)
    counted_new is_sent a d inside =
        let e : Half Answer = answered_more true (slice_index_or desk.answers answer.agent d) answer in
        let all = ap (λ (o : Out Request). length (from_agent (λ (r : Request). r.agent) a o.taken)) taken in
        elim (ℕ_discrete a answer.agent) [
          | yes same ↦
              let here = ap (λ (es : List (Half Answer)). length (slice_index_or es a d).sent) (is_sent d)
              ∙ (ap (λ (k : ℕ). length (slice_index_or (set desk.answers answer.agent e) k d).sent) same
              ∙ (ap (λ (it : Half Answer). length it.sent) (get_or-set_same desk.answers answer.agent e d within)
              ∙ length-append (slice_index_or desk.answers answer.agent d).sent (answer ∷ []))) in
              let then = asked.kept.counted asked.going answer.agent d within in
              let k = ap (λ (k : ℕ). length (from_agent (λ (r : Request). r.agent) k desk.requests.taken)) same in
              let more = count_of a desk.requests.taken request true (eq-eqb request.agent a (sym (same ∙ asked.agent_is))) in
              omega (arith, here, then, k, more, all)
          | no other ↦
              let here = ap (λ (es : List (Half Answer)). length (slice_index_or es a d).sent) (is_sent d)
              ∙ ap (λ (it : Half Answer). length it.sent) (get_or-set_other desk.answers answer.agent a e d other) in
              let then = asked.kept.counted asked.going a d inside in
              let more = count_of a desk.requests.taken request false (ne_eqb request.agent a (λ is. other (sym is ∙ sym asked.agent_is))) in
              omega (arith, here, then, more, all)
        ]

    module _ (before : List Exchange) (stands : StandsAfter keeper before desk) (answer_is : answer ≡ answer_of (history_before keeper before desk request) (next_exchange keeper before desk request)) where
      mine : (request.agent == answer.agent) ≡ true
      mine = eq-eqb request.agent answer.agent (sym asked.agent_is)

      not_mine : (a : ℕ) → a ≢ answer.agent → (request.agent == a) ≡ false
      not_mine a other = ne_eqb request.agent a (λ same. other (sym same ∙ sym asked.agent_is))

      -- the history with the request more
      abbrev pub next_history : List Exchange
      next_history = history_next (keeper.rules desk.start) (history keeper before desk) request

      few_agents : (a : ℕ) → a < length desk.answers → a < collector
      few_agents a inside = let few = asked.kept.few in omega (arith, inside, few)

      history_new : history keeper before answered_desk ≡ next_history
      history_new =
          ap (λ (o : Out Request). history_under (keeper.rules desk.start) before o.taken) taken ∙ under-more (keeper.rules desk.start) before desk.requests.taken request

      sent_at : (is_sent : IsAnswerSent true desk.answers answer halves) (a : ℕ) (d : Half Answer) → a < length desk.answers → (slice_index_or halves a d).sent ≡ answers_to a next_history
      sent_at is_sent a d inside =
          elim (ℕ_discrete a answer.agent) [
            | yes same ↦
                ap (λ (es : List (Half Answer)). (slice_index_or es a d).sent) (is_sent d)
                ∙ (ap (λ (k : ℕ). (slice_index_or (set desk.answers answer.agent (answered_more true (slice_index_or desk.answers answer.agent d) answer)) k d).sent) same
                ∙ (ap (λ (e : Half Answer). e.sent) (get_or-set_same desk.answers answer.agent (answered_more true (slice_index_or desk.answers answer.agent d) answer) d within)
                ∙ ((λ i. stands.answered asked.going answer.agent d within i ++ answer_is i ∷ [])
                ∙ (sym (next_mine answer.agent (few_agents answer.agent within) (keeper.rules desk.start) (history keeper before desk) request mine)
                ∙ ap (λ (k : ℕ). answers_to k next_history) (sym same)))))
            | no other ↦
                ap (λ (es : List (Half Answer)). (slice_index_or es a d).sent) (is_sent d)
                ∙ (ap (λ (e : Half Answer). e.sent) (get_or-set_other desk.answers answer.agent a (answered_more true (slice_index_or desk.answers answer.agent d) answer) d other)
                ∙ (stands.answered asked.going a d inside
                ∙ sym (next_other a (few_agents a inside) (keeper.rules desk.start) (history keeper before desk) request (not_mine a other))))
          ]

      -- each agent was sent what the history with the request more answers it
      answered_new : (d : Half Answer) → IsAnswerSent true desk.answers answer halves → AreAnswered halves (history keeper before answered_desk)
      answered_new d is_sent = λ a d' inside. let same = long true d is_sent in sent_at is_sent a d' (omega arith) ∙ ap (answers_to a) (sym history_new)

      -- if the answer was lost, it was sent the first of these
      sent_new : (sent : Bool) (d : Half Answer) → IsAnswerSent sent desk.answers answer halves → (a : ℕ) (d' : Half Answer) → a < length halves → IsPrefix (slice_index_or halves a d').sent (answers_to a (history keeper before answered_desk))
      sent_new true d is_sent a d' inside = ([], append-nil (slice_index_or halves a d').sent ∙ answered_new d is_sent a d' inside)
      sent_new false d is_sent a d' inside =
          let same = sent_none desk.answers halves answer d is_sent in
          let here : a < length desk.answers = subst (λ (es : List (Half Answer)). a < length es) same inside in
          let sent_then : (slice_index_or halves a d').sent ≡ answers_to a (history_before keeper before desk request) =
          ap (λ (es : List (Half Answer)). (slice_index_or es a d').sent) same
          ∙ (stands.answered asked.going a d' here ∙ sym (before_answers a (few_agents a here) (keeper.rules desk.start) (history keeper before desk) request)) in (
            from_agent (λ (it : Answer). it.agent) a (answers_after (history_before keeper before desk request) (next_exchange keeper before desk request ∷ [])),
            ap (λ (l : List Answer). l ++ from_agent (λ (it : Answer). it.agent) a (answers_after (history_before keeper before desk request) (next_exchange keeper before desk request ∷ []))) sent_then
                ∙ (sym (answers_more a (history_before keeper before desk request) (next_exchange keeper before desk request ∷ []))
                ∙ ap (answers_to a) (sym history_new)),
          )

      -- the collector models one request more, after a history
      pub stands_on : (sent : Bool) (d : Half Answer) → IsAnswerSent sent desk.answers answer halves → keeper.has book next_history rest → (keeper.moment book ≡ keeper.moment desk.book) × ((t : ℕ) (left : List ℕ) → keeper.left_since book t left → keeper.left_since desk.book t left) → (failed ≡ false → sent ≡ true)
          → StandsAfter keeper before answered_desk
      stands_on sent d is_sent book_is still going_on = record {
        has = subst (λ (t : List Exchange). keeper.has book t rest) (sym history_new) book_is;
        sent = sent_new sent d is_sent;
        answered = λ well. answered_new d (subst (λ (it : Bool). IsAnswerSent it desk.answers answer halves) (going_on well) is_sent);
        crash =
            subst (λ (requests : List Request). MayCrash keeper desk.start book (keeper.rules desk.start) before requests)
            (ap (λ (q : List Request). desk.requests.taken ++ q) asked.behind ∙ (sym (append_assoc desk.requests.taken (request ∷ []) rest) ∙ ap (λ (o : Out Request). o.taken ++ rest) (sym taken)))
            (stood_still keeper.moment keeper.left_since desk.start desk.book book _ still.0 still.1 stands.crash);
      }

    -- those behind came while agents were left
    left_new : length halves ≡ length desk.answers → (n : ℕ) → n < length rest → AreLeft answered_desk (out.taken ++ take n rest)
    left_new same n few =
        let before : AreLeft desk (desk.requests.taken ++ take (suc n) (request ∷ rest)) =
        subst (λ (q : List Request). AreLeft desk (desk.requests.taken ++ take (suc n) q)) asked.behind
        (asked.kept.in_time (suc n) (let long = ap length asked.behind in omega (arith, few))) in
        let all : out.taken ++ take n rest ≡ desk.requests.taken ++ take (suc n) (request ∷ rest) =
        ap (λ (o : Out Request). o.taken ++ take n rest) taken ∙ append_assoc desk.requests.taken (request ∷ []) (take n rest) in
        λ gone. before (ap (λ (q : List Request). goodbyes q + desk.missed) (sym all) ∙ (gone ∙ same))

    next_new : length halves ≡ length desk.answers → AreNextOf (length halves) out.taken rest
    next_new same =
        subst (λ (k : ℕ). AreNextOf k out.taken rest) (sym same)
        (subst (λ (o : Out Request). AreNextOf (length desk.answers) o.taken rest) (sym taken) (next_of (length desk.answers) desk.requests.taken rest request next_here))

    -- it keeps what every collector does
    pub keeps :
        (sent : Bool) (d : Half Answer) → IsAnswerSent sent desk.answers answer halves → (failed ≡ false → sent ≡ true) → keeper.rules book ≡ keeper.rules desk.book → keeper.sealed book ≤ keeper.sealed desk.book + 1
        → (keeper.moment book ≡ keeper.moment desk.book) × ((t : ℕ) (left : List ℕ) → keeper.left_since book t left → keeper.left_since desk.book t left)
        → ((before : List Exchange) → BeginsWith keeper desk.start before → (answer ≡ answer_of (history_before keeper before desk request) (next_exchange keeper before desk request)) × keeper.has book (history_next (keeper.rules desk.start) (history keeper before desk) request) rest) → IsDesk keeper answered_desk
    keeps sent d is_sent going_on same_rules sealed still book_is =
        let same = long sent d is_sent in
        let first = asked.kept.first in
        let past = asked.kept.past in
        let few = asked.kept.few in
        let out_first : out.first ≡ desk.requests.first = ap (λ (o : Out Request). o.first) taken in
        let out_past : out.past ≡ desk.requests.past = ap (λ (o : Out Request). o.past) taken in
        let all = ap (λ (o : Out Request). length o.taken) taken ∙ length-append desk.requests.taken (request ∷ []) in
        let before_sealed = asked.kept.sealed in
        let together = asked.kept.together in
        let one_less = ap length asked.behind in
        let next = next_new same in record {
          first = omega arith;
          past = omega arith;
          few = omega arith;
          mine = mine_new same;
          numbered = are_numbered_first out.taken rest next.numbered;
          next = next;
          together = omega arith;
          in_time = left_new same;
          lines = λ a d' inside. lines_new sent is_sent a d' (omega arith);
          rules = same_rules ∙ asked.kept.rules;
          began = asked.kept.began;
          room = asked.kept.room;
          sealed = omega arith;
          kept = λ _. refl;
          counted = λ well a d' inside. counted_new (subst (λ (it : Bool). IsAnswerSent it desk.answers answer halves) (going_on well) is_sent) a d' (omega arith);
          stands = λ before begins. stands_on before (asked.kept.stands before begins) (book_is before begins).0 sent d is_sent (book_is before begins).1 still going_on;
        }

-- a collector that has not failed has no reason for it
pub none_stopped : (P : Breach → Type 0) (stop : Option Breach) → is_some stop ≡ false → IfSome stop P
none_stopped P None going = tt
none_stopped P (Some stop) going = absurd (false≢true (sym going))

-- and is seen so
pub seen_going : {B : Type 0} (start book : B) (stop : Option Breach) (intake : Intake) (lines : List (Half Answer)) (missed : ℕ) → is_some stop ≡ false → desk_seen start book stop intake lines missed ≡ desk_seen start book None intake lines missed
seen_going start book None intake lines missed going = refl
seen_going start book (Some stop) intake lines missed going = absurd (false≢true (sym going))
