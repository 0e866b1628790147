-- Intakes: what is taken together and then given, one request after another.
use Rattle.std.proofs.Common.{◌≡◌, ◌≢◌, ℕ, ◌+◌, ◌<◌, ◌≤◌, ◌==◌, Bool, true, false, cond, All, List, [], ◌∷◌, ◌++◌, length, take, filter, refl, ap, sym, ◌∙◌, subst, append_assoc, length-append, arith}
use Rattle.std.specs.Prelude.{◌↔◌, IsTrue, Some}
use Rattle.std.specs.List.{slice_get}
use Rattle.std.proofs.Math.Decide.{dec_lt}
use Rattle.std.proofs.Math.Seq.{take-length}
use Rattle.std.proofs.lemmas.Bool.{false≢true}
use Rattle.std.proofs.lemmas.List.{get_or_append_left, take-append-le}
use Rattle.std.proofs.lemmas.List.Elements.{All-append, All-cons, All-nil, All-tail, filter-append}
use Rattle.std.proofs.lemmas.List.Sums.{length-filter, count_by-le-length}
use Rattle.std.proofs.lemmas.Option.{get_or_from_slice_get, slice_get-get_or, slice_get_within}
use Rattle.dsn_crew.specs.lane.Lane.{IsNumbered}
use Rattle.dsn_crew.proofs.lane.AgentLemmas.{get_seam, seam_mine}
use Rattle.dsn_outcome.specs.Agents.{from_agent}
use Rattle.dsn_outcome.specs.Request.{Request, Body, Append, Flush, Discard, Forget, Bye}
use Rattle.dsn_crew.specs.KeeperHistory.{AreNextOf}
use Rattle.dsn_crew.specs.desk.Intake.{goodbyes, is_goodbye}

-- ---- goodbyes

-- whether a request is a goodbye, as the program finds it
bye_is : (flag : Bool) (body : Body) → IsTrue flag ↔ (body ≡ Bye) → flag ≡ is_goodbye body
bye_is true body is = ap is_goodbye (sym (is.0 refl))
bye_is false (Append id outcome) is = refl
bye_is false (Flush key draft) is = refl
bye_is false (Discard key) is = refl
bye_is false (Forget key) is = refl
bye_is false Bye is = absurd (false≢true (is.1 refl))

counted_one : (request : Request) (flag : Bool) → is_goodbye request.body ≡ flag → goodbyes (request ∷ []) ≡ cond flag 1 0
counted_one request true is = rw is refl
counted_one request false is = rw is refl

pub goodbyes-append : (some more : List Request) → goodbyes (some ++ more) ≡ goodbyes some + goodbyes more
goodbyes-append some more =
    ap length (filter-append (λ (r : Request). is_goodbye r.body) some more)
    ∙ length-append (filter (λ (r : Request). is_goodbye r.body) some) (filter (λ (r : Request). is_goodbye r.body) more)

-- the count of goodbyes, with one request more
pub goodbyes_more : (count added : ℕ) (flag : Bool) (old new : List Request) (request : Request) → count ≡ goodbyes old → new ≡ old ++ request ∷ [] → IsTrue flag ↔ (request.body ≡ Bye) → added ≡ cond flag 1 0 → count + added ≡ goodbyes new
goodbyes_more count added flag old new request counted more is one =
    let split = ap goodbyes more ∙ goodbyes-append old (request ∷ []) in
    let last = counted_one request flag (sym (bye_is flag request.body is)) in
    omega (arith, split, last)

-- there are no more goodbyes than requests, so one more can be counted where one more request can
flag_small : (flag : Bool) → cond flag 1 0 ≤ 1
flag_small true = omega arith
flag_small false = omega arith

pub bit_small : (added : ℕ) (flag : Bool) → added ≡ cond flag 1 0 → added ≤ 1
bit_small added flag one = let small = flag_small flag in omega (arith, one)

pub goodbyes_fit : (count added most : ℕ) (flag : Bool) (requests : List Request) → count ≡ goodbyes requests → added ≡ cond flag 1 0 → length requests + 1 < most → count + added < most
goodbyes_fit count added most flag requests counted one few =
    let is = length-filter (λ (r : Request). is_goodbye r.body) requests in
    let bound = count_by-le-length (λ (r : Request). is_goodbye r.body) requests in
    let small = flag_small flag in
    omega (arith, one)

pub goodbyes_then : (heard now added : ℕ) (flag : Bool) (items more : List Request) (request : Request) → now ≡ heard + goodbyes items → more ≡ items ++ request ∷ [] → IsTrue flag ↔ (request.body ≡ Bye) → added ≡ cond flag 1 0 → now + added ≡ heard + goodbyes more
goodbyes_then heard now added flag items more request counted is bye one =
    let all = goodbyes_more (goodbyes items) added flag items more request refl is bye one in omega (arith, counted, all)

pub goodbyes_few : (requests : List Request) → goodbyes requests ≤ length requests
goodbyes_few requests =
    let is = length-filter (λ (r : Request). is_goodbye r.body) requests in
    let bound = count_by-le-length (λ (r : Request). is_goodbye r.body) requests in omega arith

-- ---- what is numbered

-- the first of what is numbered is numbered
numbered_first : (some more : List Request) → IsNumbered (λ (r : Request). r.number) (some ++ more) → IsNumbered (λ (r : Request). r.number) some
numbered_first some more is place item at =
    let within = slice_get_within some place item at in
    is place item
    (slice_get-get_or (some ++ more) place item (let long = length-append some more in omega (arith, within))
    ∙ ap Some (get_or_append_left some more item place within ∙ get_or_from_slice_get some place item item at))

abbrev pub AreNumbered : List Request → Type 0
AreNumbered requests = (a : ℕ) → IsNumbered (λ (r : Request). r.number) (from_agent (λ (r : Request). r.agent) a requests)

pub are_numbered_first : (some more : List Request) → AreNumbered (some ++ more) → AreNumbered some
are_numbered_first some more are a =
    numbered_first (from_agent (λ (r : Request). r.agent) a some) (from_agent (λ (r : Request). r.agent) a more)
    (subst (IsNumbered (λ (r : Request). r.number)) (filter-append (λ (r : Request). r.agent == a) some more) (are a))

-- the next request of an agent has its next number
pub number_next : (taken rest : List Request) (request : Request) → AreNumbered (taken ++ request ∷ rest) → request.number ≡ length (from_agent (λ (r : Request). r.agent) request.agent taken)
number_next taken rest request are =
    are request.agent (length (from_agent (λ (r : Request). r.agent) request.agent taken)) request
    (ap (λ (items : List Request). slice_get items (length (from_agent (λ (r : Request). r.agent) request.agent taken))) (seam_mine (λ (r : Request). r.agent) request.agent taken request rest refl)
    ∙ get_seam (from_agent (λ (r : Request). r.agent) request.agent taken) request (from_agent (λ (r : Request). r.agent) request.agent rest))

-- what is behind the first of those behind
pub next_of : (agents : ℕ) (taken rest : List Request) (request : Request) → AreNextOf agents taken (request ∷ rest) → AreNextOf agents (taken ++ request ∷ []) rest
next_of agents taken rest request are = record {
  from = All-tail (λ (r : Request). r.agent < agents) request rest are.from;
  numbered = λ a. subst (λ (q : List Request). IsNumbered (λ (r : Request). r.number) (from_agent (λ (r : Request). r.agent) a q)) (sym (append_assoc taken (request ∷ []) rest)) (are.numbered a);
}

-- ---- what is taken together

-- one more request, which came while agents were left
pub came_in_time : (heard now agents : ℕ) (items more : List Request) (request : Request) → now ≡ heard + goodbyes items → now ≢ agents → more ≡ items ++ request ∷ [] → ((n : ℕ) → n < length items → heard + goodbyes (take n items) ≢ agents) → (n : ℕ) → n < length more → heard + goodbyes (take n more) ≢ agents
came_in_time heard now agents items more request counted left is before n few =
    let long : length more ≡ length items + 1 = ap length is ∙ length-append items (request ∷ []) in
    let some : n ≤ length items = omega (arith, few) in
    let first : take n more ≡ take n items = ap (take n) is ∙ take-append-le n items (request ∷ []) some in
    elim (dec_lt n (length items)) [
      | yes below ↦ λ gone. before n below (ap (λ (q : List Request). heard + goodbyes q) (sym first) ∙ gone)
      | no past ↦
          let at : n ≡ length items = omega (arith, some, past) in
          let all : take n items ≡ items = ap (λ (m : ℕ). take m items) at ∙ take-length items in
          λ gone. left (counted ∙ (ap (λ (q : List Request). heard + goodbyes q) (sym (first ∙ all)) ∙ gone))
    ]

pub all_from : (past : ℕ) (items more : List Request) (request : Request) → more ≡ items ++ request ∷ [] → request.agent < past → All (λ (r : Request). r.agent < past) items → All (λ (r : Request). r.agent < past) more
all_from past items more request is from before =
    subst (All (λ (r : Request). r.agent < past)) (sym is)
    (All-append (λ (r : Request). r.agent < past) items (request ∷ []) before (All-cons (λ (r : Request). r.agent < past) request [] from (All-nil (λ (r : Request). r.agent < past))))
