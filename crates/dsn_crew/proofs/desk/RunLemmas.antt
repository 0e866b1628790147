-- Runs: what one request adds to a run, with its letter passed on or not, and one run after
-- another.
use Rattle.std.proofs.Common.{◌≡◌, ℕ, zero, suc, inl, inr, ◌+◌, ◌-◌, ◌<◌, ◌==◌, ◌&&◌, not, Bool, true, false, ◌||◌, List, [], ◌∷◌, ◌++◌, length, take, refl, ap, sym, ◌∙◌, subst, append_assoc, length-append, true≢false, eq-eqb, arith}
use Rattle.std.specs.Prelude.{Result, Ok, Err, is_err, Some, None}
use Rattle.std.proofs.lemmas.Bool.{false≢true}
use Rattle.std.proofs.lemmas.List.{append-nil, length-map, take-append-le}
use Rattle.std.proofs.Math.Decide.{dec_lt}
use mathlib.Core.List.{IsPrefix}
use Rattle.std.proofs.Math.Seq.{take-append-add}
use Rattle.dsn_book.specs.Step.{letters_in}
use Rattle.dsn_book.specs.declared.keeper.Keeper.{Ghosts as Keeper}
use Rattle.dsn_book.specs.Release.{before_request, exchange_under, history_next, history_under}
use Rattle.dsn_book.proofs.ReleaseLemmas.{next_letters, under-more}
use Rattle.dsn_crew.specs.lane.Halves.{Half, Out}
use Rattle.dsn_outcome.specs.History.{Exchange, letter_of, sealed_letters}
use Rattle.dsn_outcome.specs.Letter.{Letter}
use Rattle.dsn_outcome.specs.declared.answer.Answer.{Answer}
use Rattle.dsn_outcome.specs.Request.{Request}
use Rattle.dsn_crew.specs.declared.desk.desk_fault.DeskFault.{DeskFault}
use Rattle.dsn_crew.specs.declared.desk.desk_fault.DeskFault.TheVariants.{Requests, Answers, Letters}
use Rattle.dsn_crew.specs.post.Sink.{Handed}
use Rattle.dsn_crew.specs.agents.AgentLanes.{lanes_at}
use Rattle.dsn_crew.specs.desk.Desk.{AreAnswered, AreLeft, Desk, EndsBy, HasStopped, IsFirstBehind, IsLastRequest, IsRun, IsRequestTaken, IsUnmoved, StandsAfter, all_gone, history, history_before, history_with, agent_lanes_of, letter_kept, next_exchange, taken_requests, with_failed}
use Rattle.dsn_crew.specs.desk.Intake.{goodbyes, taken_request}

module _ {B : Type 0} (keeper : Keeper B) (before : List Exchange) where
  -- the letters of one request more
  letters_new : (old new : Desk B) (request : Request) (letter : List Letter) → new.start ≡ old.start → new.requests ≡ taken_request old.requests request → letter ≡ letter_of (history_before keeper before old request) (next_exchange keeper before old request)
      → sealed_letters (history keeper before new) ≡ sealed_letters (history keeper before old) ++ letter
  letters_new old new request letter start taken is =
      let more : history keeper before new ≡ history_next (keeper.rules old.start) (history keeper before old) request =
      (λ i. history_under (keeper.rules (start i)) before (taken i).taken) ∙ under-more (keeper.rules old.start) before old.requests.taken request in
      ap sealed_letters more
      ∙ (next_letters (keeper.rules old.start) (history keeper before old) request
      ∙ ap (λ (ls : List Letter). sealed_letters (history keeper before old) ++ ls) (sym is))

  letters_same : (old new : Desk B) → new.start ≡ old.start → new.requests ≡ old.requests → sealed_letters (history keeper before new) ≡ sealed_letters (history keeper before old) ++ []
  letters_same old new start taken =
      ap sealed_letters (λ i. history_under (keeper.rules (start i)) before (taken i).taken) ∙ sym (append-nil (sealed_letters (history keeper before old)))

  -- one request is the last of one
  last_one : (desk : Desk B) (request : Request) (letter : List Letter) → letter ≡ letter_of (history_before keeper before desk request) (next_exchange keeper before desk request) → IsLastRequest keeper before desk (request ∷ []) request letter
  last_one desk request letter is = record {
    earlier = [];
    more_are = refl;
    letter_is =
        is
        ∙ ap (λ (q : List Request). letter_of (before_request (keeper.rules desk.start) (history_under (keeper.rules desk.start) before q) request) (exchange_under (keeper.rules desk.start) (history_under (keeper.rules desk.start) before q) request)) (sym (append-nil desk.requests.taken));
  }

no_more : (out : Out Request) → out ≡ taken_requests out []
no_more out = ap (λ (taken : List Request). record { lane = out.lane; first = out.first; past = out.past; taken = taken }) (sym (append-nil out.taken))

or-true : (failed : Bool) → (failed || true) ≡ true
or-true true = refl
or-true false = refl

same_failed : (failed : Bool) → failed ≡ (failed || false)
same_failed true = refl
same_failed false = refl

-- a collector that has stopped has what it had, but its book may be another one
module _ {B : Type 0} (keeper : Keeper B) where
  stopped_requests : (old new : Desk B) → HasStopped keeper old new → new.requests ≡ old.requests
  stopped_requests old new (inl same) = ap (λ (desk : Desk B). desk.requests) same
  stopped_requests old new (inr unkept) = ap (λ (desk : Desk B). desk.requests) unkept.5

  stopped_missed : (old new : Desk B) → HasStopped keeper old new → new.missed ≡ old.missed
  stopped_missed old new (inl same) = ap (λ (desk : Desk B). desk.missed) same
  stopped_missed old new (inr unkept) = ap (λ (desk : Desk B). desk.missed) unkept.5

  stopped_failed : (old new : Desk B) → HasStopped keeper old new → new.failed ≡ true
  stopped_failed old new (inl same) = ap (λ (desk : Desk B). desk.failed) same
  stopped_failed old new (inr unkept) = ap (λ (desk : Desk B). desk.failed) unkept.5

  stopped_answered : (before : List Exchange) (old new : Desk B) → HasStopped keeper old new → AreAnswered old.answers (history keeper before old) → AreAnswered new.answers (history keeper before new)
  stopped_answered before old new (inl same) is = subst (λ (desk : Desk B). AreAnswered desk.answers (history keeper before desk)) (sym same) is
  stopped_answered before old new (inr unkept) is = subst (λ (desk : Desk B). AreAnswered desk.answers (history keeper before desk)) (sym unkept.5) is

  stopped_left : (old new : Desk B) → HasStopped keeper old new → AreLeft old old.requests.taken → AreLeft new new.requests.taken
  stopped_left old new (inl same) is = subst (λ (desk : Desk B). AreLeft desk desk.requests.taken) (sym same) is
  stopped_left old new (inr unkept) is = subst (λ (desk : Desk B). AreLeft desk desk.requests.taken) (sym unkept.5) is

  -- and what was behind is so still
  stopped_behind : (old new : Desk B) → HasStopped keeper old new → IsPrefix old.behind new.behind
  stopped_behind old new (inl same) = ([], append-nil old.behind ∙ sym (ap (λ (desk : Desk B). desk.behind) same))
  stopped_behind old new (inr unkept) = (new.behind, ap (λ (q : List Request). q ++ new.behind) unkept.1)

  -- if nothing was moved, and then nothing again, nothing was moved at all
  unmoved_then : (old mid new : Desk B) (result : Result (Unit {0}) DeskFault) → mid ≡ old → IsUnmoved keeper mid new result → IsUnmoved keeper old new result
  unmoved_then old mid new (Ok done) same then = then ∙ same
  unmoved_then old mid new (Err fault) same then = subst (λ (desk : Desk B). HasStopped keeper desk new) same then

-- agents are left while not all are gone
some_left : {B : Type 0} (desk : Desk B) → all_gone desk ≡ false → desk.failed ≡ false → AreLeft desk desk.requests.taken
some_left desk left going gone =
    true≢false (sym (ap (λ (failed : Bool). not failed && (goodbyes desk.requests.taken + desk.missed == length desk.answers)) going ∙ eq-eqb (goodbyes desk.requests.taken + desk.missed) (length desk.answers) gone) ∙ left)

one_waited : {B : Type 0} (desk : Desk B) (request : Request) → AreLeft desk desk.requests.taken → (n : ℕ) → n < length (request ∷ []) → AreLeft desk (desk.requests.taken ++ take n (request ∷ []))
one_waited desk request left zero few = subst (AreLeft desk) (sym (append-nil desk.requests.taken)) left
one_waited desk request left (suc n) few = absurd (omega arith)

-- two lists with nothing in both
both_none : {A : Type 0} (some more : List A) → some ++ more ≡ [] → (some ≡ []) × (more ≡ [])
both_none [] more none = (refl, none)
both_none (item ∷ some) more none = absurd cc

-- the collector has as many agents as before
as_many : {B : Type 0} (old new : Desk B) → agent_lanes_of new ≡ agent_lanes_of old → length new.answers ≡ length old.answers
as_many old new places = sym (length-map new.answers (lanes_at new.requests.lane)) ∙ (ap length places ∙ length-map old.answers (lanes_at old.requests.lane))

-- before each of the requests of two runs agents were left
waiting_then :
    {B : Type 0} (old mid : Desk B) (some more : List Request) → mid.requests ≡ taken_requests old.requests some → mid.missed ≡ old.missed → agent_lanes_of mid ≡ agent_lanes_of old → ((n : ℕ) → n < length some → AreLeft old (old.requests.taken ++ take n some))
    → ((n : ℕ) → n < length more → AreLeft mid (mid.requests.taken ++ take n more)) → (n : ℕ) → n < length (some ++ more) → AreLeft old (old.requests.taken ++ take n (some ++ more))
waiting_then old mid some more requests missed places before then n few =
    let long = length-append some more in
    elim (dec_lt n (length some)) [
      | yes below ↦ subst (λ (q : List Request). AreLeft old (old.requests.taken ++ q)) (sym (take-append-le n some more (omega arith))) (before n below)
      | no past ↦
          let k : ℕ = n - length some in
          let at : n ≡ length some + k = omega (arith, past) in
          let first : take n (some ++ more) ≡ some ++ take k more = ap (λ (m : ℕ). take m (some ++ more)) at ∙ take-append-add some more k in
          let all : mid.requests.taken ++ take k more ≡ old.requests.taken ++ take n (some ++ more) =
          ap (λ (out : Out Request). out.taken ++ take k more) requests ∙ (append_assoc old.requests.taken some (take k more) ∙ ap (λ (q : List Request). old.requests.taken ++ q) (sym first)) in
          λ gone. then k (omega arith) (ap (λ (q : List Request). goodbyes q + mid.missed) all ∙ (ap (λ (m : ℕ). goodbyes (old.requests.taken ++ take n (some ++ more)) + m) missed ∙ (gone ∙ sym (as_many old mid places))))
    ]

-- one request more is the first of those behind
first_behind : (old : List Request) (request : Request) (new : List Request) → IsFirstBehind old request new → IsPrefix old (request ∷ new)
first_behind old request new (inl is) = ([], append-nil old ∙ is)
first_behind old request new (inr none) = (request ∷ new, ap (λ (q : List Request). q ++ request ∷ new) none)

-- those behind come first, also in two runs
behind_then : {A : Type 0} (first second third some more : List A) → IsPrefix first (some ++ second) → IsPrefix second (more ++ third) → IsPrefix first ((some ++ more) ++ third)
behind_then first second third some more before then = (
  before.0 ++ then.0,
  sym (append_assoc first before.0 then.0)
      ∙ (ap (λ (q : List _). q ++ then.0) before.1
      ∙ (append_assoc some second then.0 ∙ (ap (λ (q : List _). some ++ q) then.1 ∙ sym (append_assoc some more third)))),
)

not_idle : {P : Type 0} (failed : Bool) → failed ≡ false → failed ≡ true → P
not_idle true going idle = absurd (true≢false going)
not_idle false going idle = absurd (false≢true idle)

module _ {B : Type 0} (keeper : Keeper B) (before : List Exchange) where
  -- the last request of what follows is the last of all
  last_then : (old mid : Desk B) (some more : List Request) (request : Request) (letter : List Letter) → mid.start ≡ old.start → ((later : List Request) → history_with keeper before mid later ≡ history_with keeper before old (some ++ later)) → IsLastRequest keeper before mid more request letter → IsLastRequest keeper before old (some ++ more) request letter
  last_then old mid some more request letter start same last = record {
    earlier = some ++ last.earlier;
    more_are = ap (λ (l : List Request). some ++ l) last.more_are ∙ sym (append_assoc some last.earlier (request ∷ []));
    letter_is = last.letter_is ∙ (λ i. letter_of (before_request (keeper.rules (start i)) (same last.earlier i) request) (exchange_under (keeper.rules (start i)) (same last.earlier i) request));
  }

  ends_then : (old mid new : Desk B) (some more : List Request) (result : Result (Unit {0}) DeskFault) → mid.failed ≡ old.failed → mid.start ≡ old.start → ((later : List Request) → history_with keeper before mid later ≡ history_with keeper before old (some ++ later)) → EndsBy keeper before mid more new result → EndsBy keeper before old (some ++ more) new result
  unfolding last_then
  ends_then old mid new some more (Ok done) still start same ends = tt
  ends_then old mid new some more (Err Requests) still start same ends = λ going. ends (still ∙ going)
  ends_then old mid new some more (Err (Answers agent letter)) still start same ends =
      (sym still ∙ ends.0, ends.1, ends.2, last_then old mid some more ends.1 (letters_in letter) start same ends.3, subst (AreAnswered new.answers) (same ends.3.earlier) ends.4)
  ends_then old mid new some more (Err (Letters letter)) still start same ends =
      (sym still ∙ ends.0, ends.1, last_then old mid some more ends.1 (letter ∷ []) start same ends.2, ends.3)

module _ {B S : Type 0} (keeper : Keeper B) (before : List Exchange) (takes : S → Letter → S → Type 0) where
  -- what all runs of one request share
  one_run : (old new : Desk B) (sink after : S) (request : Request) (handed : List Letter) (result : Result (Unit {0}) DeskFault) → new.requests ≡ taken_request old.requests request → IsFirstBehind old.behind request new.behind → new.start ≡ old.start → agent_lanes_of new ≡ agent_lanes_of old → new.missed ≡ old.missed
      → Handed takes sink handed after → handed ++ letter_kept result ≡ letter_of (history_before keeper before old request) (next_exchange keeper before old request) → old.failed ≡ false → AreLeft old old.requests.taken → new.failed ≡ is_err result → EndsBy keeper before old (request ∷ []) new result → IsRun keeper before takes old new sink after result
  one_run old new sink after request handed result requests behind limits places missed sink_is letters going left failed ends = record {
    more = request ∷ [];
    requests = requests;
    behind = first_behind old.behind request new.behind behind;
    handed = handed;
    sink_is = sink_is;
    letters = letters_new keeper before old new request (handed ++ letter_kept result) limits requests letters;
    start = limits;
    places = places;
    missed = missed;
    failed = failed ∙ ap (λ (b : Bool). b || is_err result) (sym going);
    waiting = one_waited old request left;
    idle = not_idle old.failed going;
    unmoved = λ none. absurd cc;
    ends = ends;
  }

  pub took_none : (old new : Desk B) (sink : S) → all_gone old ≡ false → IsRequestTaken keeper before old new (Ok None) → new.start ≡ old.start → agent_lanes_of new ≡ agent_lanes_of old → IsRun keeper before takes old new sink sink (Ok tt)
  took_none old new sink left taken limits places =
      one_run old new sink sink taken.0 [] (Ok tt) taken.3 taken.7 limits places taken.5 refl taken.6 taken.1 (some_left old left taken.1) taken.2 tt

  pub took_fault : (old new : Desk B) (sink : S) (fault : DeskFault) → StandsAfter keeper before old → all_gone old ≡ false → IsRequestTaken keeper before old new (Err fault) → new.start ≡ old.start → agent_lanes_of new ≡ agent_lanes_of old → IsRun keeper before takes old new sink sink (Err fault)
  unfolding last_one
  took_fault old new sink Requests stands left taken limits places = record {
    more = [];
    requests = stopped_requests keeper old new taken ∙ no_more old.requests;
    behind = stopped_behind keeper old new taken;
    handed = [];
    sink_is = refl;
    letters = letters_same keeper before old new limits (stopped_requests keeper old new taken);
    start = limits;
    places = places;
    missed = stopped_missed keeper old new taken;
    failed = stopped_failed keeper old new taken ∙ sym (or-true old.failed);
    waiting = λ n few. absurd (omega arith);
    idle = λ _. refl;
    unmoved = λ _. taken;
    ends = λ going. (stopped_answered keeper before old new taken (stands.answered going), stopped_left keeper old new taken (some_left old left going));
  }
  took_fault old new sink (Answers agent letter) kept left taken limits places =
      let answered : AreAnswered new.answers (history_with keeper before old []) =
      subst (λ (ends : List (Half Answer)). AreAnswered ends (history_with keeper before old [])) (sym taken.5)
      (subst (λ (q : List Request). AreAnswered old.answers (history_under (keeper.rules old.start) before q)) (sym (append-nil old.requests.taken)) (kept.answered taken.1)) in
      one_run old new sink sink taken.0 [] (Err (Answers agent letter)) taken.3 taken.8 limits places taken.6 refl taken.7 taken.1 (some_left old left taken.1) taken.2 (taken.1, taken.0, taken.4, last_one keeper before old taken.0 (letters_in letter) taken.7, answered)
  took_fault old new sink (Letters letter) kept left taken limits places = absurd taken

  pub took_handed : (old new : Desk B) (sink after : S) (letter : Letter) → all_gone old ≡ false → IsRequestTaken keeper before old new (Ok (Some letter)) → new.start ≡ old.start → agent_lanes_of new ≡ agent_lanes_of old → takes sink letter after → IsRun keeper before takes old new sink after (Ok tt)
  took_handed old new sink after letter left taken limits places takes_it =
      one_run old new sink after taken.0 (letter ∷ []) (Ok tt) taken.3 taken.7 limits places taken.5 (after, takes_it, refl) taken.6 taken.1 (some_left old left taken.1) taken.2 tt

  -- the sink is gone: the collector is as it was once the request was answered, but failed
  pub took_lost : (old mid new : Desk B) (sink after : S) (letter back : Letter) → StandsAfter keeper before mid → all_gone old ≡ false → IsRequestTaken keeper before old mid (Ok (Some letter)) → mid.start ≡ old.start → agent_lanes_of mid ≡ agent_lanes_of old → new ≡ with_failed mid true → back ≡ letter → after ≡ sink → IsRun keeper before takes old new sink after (Err (Letters back))
  took_lost old mid new sink after letter back kept left taken limits places is same sink_same =
      let sealed : back ∷ [] ≡ letter_of (history_before keeper before old taken.0) (next_exchange keeper before old taken.0) = ap (λ (l : Letter). l ∷ []) same ∙ taken.6 in
      one_run old new sink after taken.0 [] (Err (Letters back)) (ap (λ (desk : Desk B). desk.requests) is ∙ taken.3) (subst (IsFirstBehind old.behind taken.0) (sym (ap (λ (desk : Desk B). desk.behind) is)) taken.7) (ap (λ (desk : Desk B). desk.start) is ∙ limits) (ap agent_lanes_of is ∙ places) (ap (λ (desk : Desk B). desk.missed) is ∙ taken.5) sink_same
      sealed taken.1 (some_left old left taken.1) (ap (λ (desk : Desk B). desk.failed) is) (taken.1, taken.0, last_one keeper before old taken.0 (back ∷ []) sealed, subst (λ (desk : Desk B). AreAnswered desk.answers (history keeper before desk)) (sym is) (kept.answered taken.2))

  -- nothing was taken yet
  pub run_none : (desk : Desk B) (sink : S) → IsRun keeper before takes desk desk sink sink (Ok tt)
  run_none desk sink = record {
    more = [];
    requests = no_more desk.requests;
    behind = ([], append-nil desk.behind);
    handed = [];
    sink_is = refl;
    letters = sym (append-nil (sealed_letters (history keeper before desk)));
    start = refl;
    places = refl;
    missed = refl;
    failed = same_failed desk.failed;
    waiting = λ n few. absurd (omega arith);
    idle = λ _. refl;
    unmoved = λ _. refl;
    ends = tt;
  }

  handed_then : (first second third : S) (some more : List Letter) → Handed takes first some second → Handed takes second more third → Handed takes first (some ++ more) third
  handed_then first second third [] more none then = subst (λ (s : S). Handed takes s more third) none then
  handed_then first second third (letter ∷ some) more one then = (one.0, one.1, handed_then one.0 second third some more one.2 then)

  -- a run that has not failed leaves the collector as able as it was
  still : {old mid : Desk B} {first second : S} → IsRun keeper before takes old mid first second (Ok tt) → mid.failed ≡ old.failed
  still {old} run = run.failed ∙ sym (same_failed old.failed)

  -- what a run took is said of the history that it began with
  history_then : {old mid : Desk B} {first second : S} (run : IsRun keeper before takes old mid first second (Ok tt)) → (more : List Request) → history_with keeper before mid more ≡ history_with keeper before old (run.more ++ more)
  history_then {old} run more =
      (λ i. history_under (keeper.rules (run.start i)) before ((run.requests i).taken ++ more))
      ∙ ap (history_under (keeper.rules old.start) before) (append_assoc old.requests.taken run.more more)

  -- one run after another
  pub run_then : (old mid new : Desk B) (first second third : S) (result : Result (Unit {0}) DeskFault) → IsRun keeper before takes old mid first second (Ok tt) → IsRun keeper before takes mid new second third result → IsRun keeper before takes old new first third result
  run_then old mid new first second third result first_run then = record {
    more = first_run.more ++ then.more;
    requests =
        then.requests
        ∙ (ap (λ (out : Out Request). taken_requests out then.more) first_run.requests
        ∙ ap (λ (taken : List Request). record { lane = old.requests.lane; first = old.requests.first; past = old.requests.past; taken = taken }) (append_assoc old.requests.taken first_run.more then.more));
    behind = behind_then old.behind mid.behind new.behind first_run.more then.more first_run.behind then.behind;
    handed = first_run.handed ++ then.handed;
    sink_is = handed_then first second third first_run.handed then.handed first_run.sink_is then.sink_is;
    letters =
        then.letters
        ∙ (ap (λ (ls : List Letter). ls ++ (then.handed ++ letter_kept result)) (first_run.letters ∙ ap (λ (ls : List Letter). sealed_letters (history keeper before old) ++ ls) (append-nil first_run.handed))
        ∙ (append_assoc (sealed_letters (history keeper before old)) first_run.handed (then.handed ++ letter_kept result)
        ∙ ap (λ (ls : List Letter). sealed_letters (history keeper before old) ++ ls) (sym (append_assoc first_run.handed then.handed (letter_kept result)))));
    start = then.start ∙ first_run.start;
    places = then.places ∙ first_run.places;
    missed = then.missed ∙ first_run.missed;
    failed = then.failed ∙ ap (λ (b : Bool). b || is_err result) (still first_run);
    waiting = waiting_then old mid first_run.more then.more first_run.requests first_run.missed first_run.places first_run.waiting then.waiting;
    idle = λ idle. (λ i. first_run.idle idle i ++ then.idle (still first_run ∙ idle) i);
    unmoved = λ none.
        let parts = both_none first_run.more then.more none in
        unmoved_then keeper old mid new result (first_run.unmoved parts.0) (then.unmoved parts.1);
    ends = ends_then keeper before old mid new first_run.more then.more result (still first_run) first_run.start (history_then first_run) then.ends;
  }
