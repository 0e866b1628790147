-- Properties of histories continued by rules. A Forget of the collector answers no other agent and
-- seals no letter.
use Rattle.std.proofs.Common.{◌≡◌, true, false, ℕ, ◌+◌, ◌<◌, ◌==◌, Bool, List, [], ◌∷◌, ◌++◌, length, map, refl, ap, ◌∙◌, ne_eqb, length-append, arith}
use Rattle.std.proofs.lemmas.List.{append-nil}
use Rattle.dsn_outcome.specs.Agents.{from_agent}
use Rattle.dsn_outcome.specs.History.{Limits, Exchange, answer_of, answers_to, exchange_of, history_after, letter_of, letter_sealed, sealed_letters}
use Rattle.dsn_outcome.specs.Letter.{Letter}
use Rattle.dsn_outcome.specs.Request.{Request, Body}
use Rattle.dsn_outcome.specs.declared.answer.Answer.{Answer}
use Rattle.dsn_outcome.proofs.HistoryLaws.{answers_mine, answers_other, letters_more}
use Rattle.dsn_text.specs.declared.key.Key.{Key}
use Rattle.dsn_book.specs.Release.{Rules, before_request, collector, exchange_under, history_by, history_next, history_releasing, history_under, release_of, released_for, releasing, room_made}

by-one : (releases : Bool) (limits : Limits) (before : List Exchange) (request : Request) (rest : List Request) → history_by releases limits before (request ∷ rest) ≡ history_by releases limits (history_next (record { limits = limits; releases = releases }) before request) rest
unfolding history_after history_releasing
by-one false limits before request rest = refl
by-one true limits before request rest = refl

-- the first of some requests is carried out first
pub under-one : (rules : Rules) (before : List Exchange) (request : Request) (rest : List Request) → history_under rules before (request ∷ rest) ≡ history_under rules (history_next rules before request) rest
under-one rules before request rest = by-one rules.releases rules.limits before request rest

by-none : (releases : Bool) (limits : Limits) (before : List Exchange) → history_by releases limits before [] ≡ before
unfolding history_after history_releasing
by-none false limits before = refl
by-none true limits before = refl

pub under-none : (rules : Rules) (before : List Exchange) → history_under rules before [] ≡ before
under-none rules before = by-none rules.releases rules.limits before

pub after-none : (limits : Limits) (before : List Exchange) → history_after limits before [] ≡ before
unfolding history_after
after-none limits before = refl

pub history-append : (limits : Limits) (before : List Exchange) (first more : List Request) → history_after limits before (first ++ more) ≡ history_after limits (history_after limits before first) more
unfolding history_after
history-append limits before [] more = refl
history-append limits before (request ∷ first) more = history-append limits (before ++ exchange_of limits before request ∷ []) first more

releasing-append : (limits : Limits) (before : List Exchange) (first more : List Request) → history_releasing limits before (first ++ more) ≡ history_releasing limits (history_releasing limits before first) more
unfolding history_releasing
releasing-append limits before [] more = refl
releasing-append limits before (request ∷ first) more = releasing-append limits (history_next (releasing limits) before request) first more

by-append : (releases : Bool) (limits : Limits) (before : List Exchange) (first more : List Request) → history_by releases limits before (first ++ more) ≡ history_by releases limits (history_by releases limits before first) more
by-append false limits before first more = history-append limits before first more
by-append true limits before first more = releasing-append limits before first more

-- the history after some requests and then others is that after all of them
pub under-append : (rules : Rules) (before : List Exchange) (first more : List Request) → history_under rules before (first ++ more) ≡ history_under rules (history_under rules before first) more
under-append rules before first more = by-append rules.releases rules.limits before first more

-- with one request more, that request is carried out last
pub under-more : (rules : Rules) (before : List Exchange) (requests : List Request) (request : Request) → history_under rules before (requests ++ request ∷ []) ≡ history_next rules (history_under rules before requests) request
under-more rules before requests request =
    under-append rules before requests (request ∷ [])
    ∙ (under-one rules (history_under rules before requests) request [] ∙ under-none rules (history_next rules (history_under rules before requests) request))

-- ---- the letters

no_letter : (limits : Limits) (history : List Exchange) (key : Key) → letter_of history (exchange_of limits history (release_of key)) ≡ []
unfolding exchange_of letter_sealed
no_letter limits history key = refl

forgotten_letters : (limits : Limits) (history : List Exchange) (keys : List Key) → sealed_letters (history_after limits history (map release_of keys)) ≡ sealed_letters history
unfolding history_after
forgotten_letters limits history [] = refl
forgotten_letters limits history (key ∷ keys) =
    forgotten_letters limits (history ++ exchange_of limits history (release_of key) ∷ []) keys
    ∙ (letters_more history (exchange_of limits history (release_of key))
    ∙ (ap (λ (letters : List Letter). sealed_letters history ++ letters) (no_letter limits history key) ∙ append-nil (sealed_letters history)))

room_letters : (releases : Bool) (limits : Limits) (history : List Exchange) (body : Body) → sealed_letters (room_made releases limits history body) ≡ sealed_letters history
room_letters false limits history body = refl
room_letters true limits history body = forgotten_letters limits history (released_for limits history body)

-- making room seals no letter
pub before_letters : (rules : Rules) (history : List Exchange) (request : Request) → sealed_letters (before_request rules history request) ≡ sealed_letters history
before_letters rules history request = room_letters rules.releases rules.limits history request.body

-- one request more seals its own letter after the others
pub next_letters : (rules : Rules) (history : List Exchange) (request : Request) → sealed_letters (history_next rules history request) ≡ sealed_letters history ++ letter_of (before_request rules history request) (exchange_under rules history request)
next_letters rules history request =
    letters_more (before_request rules history request) (exchange_under rules history request)
    ∙ ap (λ (letters : List Letter). letters ++ letter_of (before_request rules history request) (exchange_under rules history request)) (before_letters rules history request)

-- ---- the answers

module _ (agent : ℕ) (few : agent < collector) where
  not_collector : (limits : Limits) (history : List Exchange) (key : Key) → ((exchange_of limits history (release_of key)).request.agent == agent) ≡ false
  unfolding exchange_of
  not_collector limits history key = ne_eqb 16 agent (λ same. omega (arith, few, same))

  forgotten_answers : (limits : Limits) (history : List Exchange) (keys : List Key) → answers_to agent (history_after limits history (map release_of keys)) ≡ answers_to agent history
  unfolding history_after
  forgotten_answers limits history [] = refl
  forgotten_answers limits history (key ∷ keys) =
      forgotten_answers limits (history ++ exchange_of limits history (release_of key) ∷ []) keys
      ∙ answers_other agent history (exchange_of limits history (release_of key)) (not_collector limits history key)

  room_answers : (releases : Bool) (limits : Limits) (history : List Exchange) (body : Body) → answers_to agent (room_made releases limits history body) ≡ answers_to agent history
  room_answers false limits history body = refl
  room_answers true limits history body = forgotten_answers limits history (released_for limits history body)

  -- making room answers no agent but the collector
  pub before_answers : (rules : Rules) (history : List Exchange) (request : Request) → answers_to agent (before_request rules history request) ≡ answers_to agent history
  before_answers rules history request = room_answers rules.releases rules.limits history request.body

  -- one request more of the agent adds one answer to it
  pub next_mine : (rules : Rules) (history : List Exchange) (request : Request) → (request.agent == agent) ≡ true → answers_to agent (history_next rules history request) ≡ answers_to agent history ++ answer_of (before_request rules history request) (exchange_under rules history request) ∷ []
  unfolding exchange_of
  next_mine rules history request mine =
      answers_mine agent (before_request rules history request) (exchange_under rules history request) mine
      ∙ ap (λ (answers : List Answer). answers ++ answer_of (before_request rules history request) (exchange_under rules history request) ∷ []) (before_answers rules history request)

  -- one request more of another agent adds no answer to it
  pub next_other : (rules : Rules) (history : List Exchange) (request : Request) → (request.agent == agent) ≡ false → answers_to agent (history_next rules history request) ≡ answers_to agent history
  unfolding exchange_of
  next_other rules history request other =
      answers_other agent (before_request rules history request) (exchange_under rules history request) other ∙ before_answers rules history request

  answered_one : (rules : Rules) (history : List Exchange) (request : Request) (rest : List Request) (same : Bool) → (request.agent == agent) ≡ same
      → length (answers_to agent (history_next rules history request)) + length (from_agent (λ (r : Request). r.agent) agent rest) ≡ length (answers_to agent history) + length (from_agent (λ (r : Request). r.agent) agent (request ∷ rest))
  answered_one rules history request rest true is =
      let more = ap length (next_mine rules history request is) ∙ length-append (answers_to agent history) (answer_of (before_request rules history request) (exchange_under rules history request) ∷ []) in
      rw is (omega (arith, more))
  answered_one rules history request rest false is =
      let same = ap length (next_other rules history request is) in
      rw is (omega (arith, same))

  -- an agent is answered as often as it asked, beside what it was answered before
  pub answered_length : (rules : Rules) (history : List Exchange) (requests : List Request) → length (answers_to agent (history_under rules history requests)) ≡ length (answers_to agent history) + length (from_agent (λ (r : Request). r.agent) agent requests)
  answered_length rules history [] =
      let none = ap (λ (t : List Exchange). length (answers_to agent t)) (under-none rules history) in omega (arith, none)
  answered_length rules history (request ∷ rest) =
      ap (λ (t : List Exchange). length (answers_to agent t)) (under-one rules history request rest)
      ∙ (answered_length rules (history_next rules history request) rest ∙ answered_one rules history request rest (request.agent == agent) refl)
